-- Reader and writer have one order of numbers, and what the writer's call takes, the reader's call tells of the block written.
-- Theorem: proofs/Back.antt, `one_order`.
-- Assumes nothing.
use Rattle.std.specs.Prelude.{◌≡◌, List, [], ◌∷◌, ℕ, length}
use Rattle.symbolic_block.specs.declared.SymbolicBlock.{SymbolicBlock}
use Rattle.symbolic_block.specs.Fields.{Sized}
use Rattle.spare_bits.specs.Spare.{spare_count}
use Rattle.symbolic_numbers.specs.Numbers.{flat_of, block_from}
use Rattle.symbolic_numbers.specs.Calls.{read_number, read_numbers, read_spare, write_number, write_block}

-- numbers that the writer's call takes, sixteen bytes for the block, and lists for what is read of it
pub record Taken (fp : ℕ) (numbers old told spare : List ℕ) : Type 0 where
  pub numbers_107 : length numbers ≡ 107
  pub bytes_16 : length old ≡ 16
  pub told_107 : length told ≡ 107
  pub spare_2 : length spare ≡ 2
  pub taken : write_number fp numbers (length old) ≡ 0

pub record OneOrder : Type 0 where
  -- a symbolic block's list stands for it, and a list is its symbolic block's
  pub from_flat : (s : SymbolicBlock) → Sized s → block_from (flat_of s) ≡ s
  pub flat_from : (numbers : List ℕ) → length numbers ≡ 107 → flat_of (block_from numbers) ≡ numbers
  -- what is written without a refusal is told again, number for number
  pub number_back : (fp : ℕ) (numbers old told spare : List ℕ) → Taken fp numbers old told spare
      → read_number fp (write_block fp numbers old) (length told) (length spare) ≡ 0
  pub list_back : (fp : ℕ) (numbers old told spare : List ℕ) → Taken fp numbers old told spare
      → read_numbers fp (write_block fp numbers old) told (length spare) ≡ numbers
  -- with no spare bit set (02, g)
  pub spare_back : (fp : ℕ) (numbers old told spare : List ℕ) → Taken fp numbers old told spare
      → read_spare fp (write_block fp numbers old) (length told) spare ≡ spare_count (block_from numbers) ∷ 0 ∷ []
