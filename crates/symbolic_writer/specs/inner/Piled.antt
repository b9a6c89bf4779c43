-- A block that is written from bit 0 upwards, as one number.
-- Assumes nothing.
use Rattle.std.specs.Prelude.{ℕ, ◌+◌, ◌*◌, ◌%◌, ◌^◌, ◌≤◌, Bool, List, [], ◌∷◌}
use Rattle.bits.specs.Field.{field}
use Rattle.block_header.specs.Counts.{weight_count, weight_bits, endpoint_count}
use Rattle.symbolic_block.specs.declared.SymbolicBlock.{SymbolicBlock}
use Rattle.symbolic_block.specs.Fields.{sheet_grid, header_of}
use Rattle.bits.specs.Cells.{Cell}
use Rattle.void_extent.specs.Writing.{extent_cell}

-- the block with number B, its bits below bit p kept, and from there on the number v
unfoldable pub with_value : ℕ → ℕ → ℕ → ℕ
unfolding field
with_value B p v = (field B 0 p + v * 2 ^ p) % 2 ^ 128

-- cells one after the other on top of the block with number B
unfoldable pub piled : ℕ → List Cell → ℕ
unfolding with_value
piled B [] = B
piled B (c ∷ cs) = piled (with_value B c.place c.value) cs

-- the extents of a void extent
unfoldable pub extent_cells : Bool → (ℕ → ℕ) → List Cell
extent_cells volume e =
    extent_cell volume e 0 ∷ extent_cell volume e 1 ∷ extent_cell volume e 2 ∷ extent_cell volume e 3 ∷ extent_cell volume e 4 ∷ extent_cell volume e 5 ∷ []

-- what makes every count and place of a mode sheet fit the code's numbers
pub record Packable (s : SymbolicBlock) : Type 0 where
  pub partitions_low : 1 ≤ s.partitions
  pub partitions_most : s.partitions ≤ 4
  pub weights_most : weight_count (sheet_grid s) ≤ 64
  pub bits_most : weight_bits (sheet_grid s) ≤ 96
  pub endpoints_most : endpoint_count (header_of s) ≤ 18
