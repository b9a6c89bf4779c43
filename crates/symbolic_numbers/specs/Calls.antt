-- What the calls that read and write a symbolic block (01: sheet) as a list of 107 numbers answer, and what they leave.
-- Assumes nothing.
use Rattle.std.specs.Prelude.{ℕ, Bool, not, List, [], ◌∷◌, eqb, length}
use Rattle.laws.specs.Choice.{pick, both}
use Rattle.laws.specs.Table.{tab}
use Rattle.laws.specs.Reasons.{when, first_of}
use Rattle.block_answer.specs.declared.Answer.{Answer}
use Rattle.block_answer.specs.declared.Answer.TheVariants.{Refused, Faulty, Done}
use Rattle.block_answer.specs.Told.{number_told}
use Rattle.spare_bits.specs.Spare.{spare_numbers}
use Rattle.symbolic_block.specs.Refusals.{unknown_footprint}
use Rattle.symbolic_calls.specs.Writing.{writing_of}
use Rattle.symbolic_reader.specs.declared.SymbolicReading.{SymbolicReading}
use Rattle.symbolic_reader.specs.Answers.{reading_of}
use Rattle.symbolic_numbers.specs.Numbers.{flat_of, block_over, block_from}

-- ---- the reader

-- the number told where a list lent has another length: 5, after the refusals 1 and 4
abbrev pub refused_or5 : Answer → ℕ
refused_or5 (Refused n) = n
refused_or5 (Faulty n) = 5
refused_or5 Done = 5

-- 107 numbers for the symbolic block, two for the spare bits (02, g)
abbrev pub room_for : ℕ → ℕ → Bool
room_for numbers spare = both (eqb numbers 107) (eqb spare 2)

-- what a call answers that puts a reading into two lists of so many numbers
unfoldable pub put_number : SymbolicReading → ℕ → ℕ → ℕ
put_number r n m = pick (room_for n m) (number_told r.answer) (refused_or5 r.answer)

-- what the first list holds then: the symbolic block, zeros on a fault and on the refusals 1 and 4; what it held where it is not of 107 numbers
-- or the other not of two
unfoldable pub put_numbers : SymbolicReading → List ℕ → ℕ → List ℕ
unfolding flat_of
put_numbers r old m = pick (room_for (length old) m) (flat_of r.block) old

-- and the second: the spare bits, two zeros where the first holds zeros; what it held where that does
unfoldable pub put_spare : SymbolicReading → ℕ → List ℕ → List ℕ
put_spare r n old = pick (room_for n (length old)) (spare_numbers r.spare) old

-- these of what the reader answers for the bytes s
abbrev pub read_number : ℕ → List ℕ → ℕ → ℕ → ℕ
read_number fp s n m = put_number (reading_of fp s) n m

abbrev pub read_numbers : ℕ → List ℕ → List ℕ → ℕ → List ℕ
read_numbers fp s old m = put_numbers (reading_of fp s) old m

abbrev pub read_spare : ℕ → List ℕ → ℕ → List ℕ → List ℕ
read_spare fp s n old = put_spare (reading_of fp s) n old

-- ---- the writer

-- the refusals that come before the symbolic block's own, for a list of so many numbers and a block of so many bytes
unfoldable pub lent_refusal : ℕ → ℕ → ℕ → ℕ
unfolding unknown_footprint
lent_refusal fp numbers block =
    first_of (when (unknown_footprint fp) 1 ∷ when (not (eqb block 16)) 4 ∷ when (not (eqb numbers 107)) 5 ∷ [])

-- what the call answers with a block of so many bytes: these, else the refusal of the list's symbolic block, 0 for none
unfoldable pub write_number : ℕ → List ℕ → ℕ → ℕ
unfolding lent_refusal block_over writing_of
write_number fp numbers n =
    let e = lent_refusal fp (length numbers) n in
    pick (eqb e 0) (number_told (writing_of fp (block_from numbers)).answer) e

-- what the block holds then: the bytes written, "all 0 on a refusal", also of a list that is not of 107 numbers; what it held where it is not
-- of 16 bytes
unfoldable pub write_block : ℕ → List ℕ → List ℕ → List ℕ
unfolding block_over writing_of
write_block fp numbers old =
    pick (eqb (length old) 16) (pick (eqb (length numbers) 107) (writing_of fp (block_from numbers)).bytes (tab (λ k. 0) 16)) old
