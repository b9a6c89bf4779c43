-- Of lists: what the writer's call takes, the reader's call tells of the block written.
-- Assumes nothing.
use mathlib.Core.Path.{◌≡◌, refl, sym, ap, ap₂, ◌∙◌}
use mathlib.Core.Bool.{Bool}
use mathlib.Core.List.{List, [], ◌∷◌}
use Prim.Native.Nat.{ℕ}
use lib.ListN.{length, get_or}
use Rattle.laws.specs.Table.{tab, tab_from}
use Rattle.laws.specs.inner.Filled.{Filled}
use Rattle.laws.proofs.Filling.{filled_all}
use Rattle.block_answer.specs.Told.{number_told}
use Rattle.laws.specs.Choice.{pick}
use Rattle.spare_bits.specs.Spare.{spare_count, spare_numbers}
use Rattle.symbolic_block.specs.Refusals.{Acceptable}
use Rattle.symbolic_block.specs.Writing.{block_of}
use Rattle.symbolic_calls.proofs.Laws.{told_number}
use Rattle.symbolic_reader.specs.declared.SymbolicReading.{SymbolicReading}
use Rattle.symbolic_reader.specs.Answers.{done, reading_of}
use Rattle.symbolic_reader.proofs.SpareTold.{count_is, written_clear}
use Rattle.round_trip.proofs.Laws.{back}
use Rattle.symbolic_numbers.specs.Numbers.{flat_of, block_over, block_from}
use Rattle.symbolic_numbers.specs.Calls.{read_number, read_numbers, read_spare, write_number, write_block}
use Rattle.symbolic_numbers.specs.Back.{OneOrder}
use Rattle.symbolic_numbers.proofs.Laws.{from_sized, from_flat, number_read, numbers_read, spare_read, write_told, block_written}

module _ (numbers : List ℕ) (l : length numbers ≡ 107) where
  by_place : flat_of (block_from numbers) ≡ tab (λ i. get_or numbers i 0) 107
  unfolding flat_of block_over tab tab_from
  by_place = refl

  -- a list's symbolic block has that list
  flat_from : flat_of (block_from numbers) ≡ numbers
  unfolding Filled
  flat_from = by_place ∙ sym (filled_all (λ i. get_or numbers i 0) 0 numbers 107 l (λ i h. refl))

  -- written without a refusal, it is told again, number for number
  module _ (fp : ℕ) (old told spare : List ℕ) (sixteen : length old ≡ 16) (room : length told ≡ 107) (two : length spare ≡ 2) (taken : write_number fp numbers (length old) ≡ 0) where
    acceptable : Acceptable fp (block_from numbers)
    acceptable = sym (told_number fp (block_from numbers)) ∙ write_told fp numbers old sixteen l ∙ taken

    read : reading_of fp (write_block fp numbers old) ≡ done (block_of fp (block_from numbers)) (block_from numbers)
    read = ap (reading_of fp) (sym (block_written fp numbers old sixteen l)) ∙ back fp (block_from numbers) (from_sized numbers) acceptable

    number_back : read_number fp (write_block fp numbers old) (length told) (length spare) ≡ 0
    number_back = sym (number_read (reading_of fp (write_block fp numbers old)) told spare room two) ∙ ap (λ (r : SymbolicReading). number_told r.answer) read

    list_back : read_numbers fp (write_block fp numbers old) told (length spare) ≡ numbers
    list_back = sym (numbers_read (reading_of fp (write_block fp numbers old)) told spare room two) ∙ ap (λ (r : SymbolicReading). flat_of r.block) read ∙ flat_from

    -- with no spare bit set
    spare_back : read_spare fp (write_block fp numbers old) (length told) spare ≡ spare_count (block_from numbers) ∷ 0 ∷ []
    spare_back =
        sym (spare_read (reading_of fp (write_block fp numbers old)) told spare room two)
        ∙ ap (λ (r : SymbolicReading). spare_numbers r.spare) read
        ∙ ap₂ (λ (n : ℕ) (set : Bool). n ∷ pick set 1 0 ∷ []) (count_is (block_of fp (block_from numbers)) (block_from numbers)) (written_clear fp (block_from numbers) (from_sized numbers) acceptable)

-- ---- the whole

pub one_order : OneOrder
one_order = record {
  from_flat = from_flat;
  flat_from = flat_from;
  number_back = λ fp numbers old told spare t. number_back numbers t.numbers_107 fp old told spare t.bytes_16 t.told_107 t.spare_2 t.taken;
  list_back = λ fp numbers old told spare t. list_back numbers t.numbers_107 fp old told spare t.bytes_16 t.told_107 t.spare_2 t.taken;
  spare_back = λ fp numbers old told spare t. spare_back numbers t.numbers_107 fp old told spare t.bytes_16 t.told_107 t.spare_2 t.taken;
}
