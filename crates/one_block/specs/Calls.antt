-- 01, "Numbers told to the caller": what a one-block call answers and leaves in the result buffer. 02, b: in the ordinary reading or the strict
-- one, one text for both; the names without a reading are the ordinary one's.
-- Assumes nothing.
use Rattle.std.specs.Prelude.{◌≡◌, ℕ, List, eqb, length}
use Rattle.laws.specs.Choice.{pick}
use Rattle.bits.specs.Block.{number_of}
use Rattle.interpolation.specs.declared.Kind.{Kind}
use Rattle.interpolation.specs.Expansion.{shown_of, takes_hdr}
use Rattle.block_reading.specs.declared.Reading.{Reading}
use Rattle.block_reading.specs.declared.Reading.TheVariants.{Ordinary}
use Rattle.block_reading.specs.Faults.{fault_in}
use Rattle.block_reading.specs.Shown.{numbers_in}
use Rattle.block_answer.specs.declared.Answer.{Answer}
use Rattle.block_answer.specs.declared.Answer.TheVariants.{Refused}
use Rattle.block_answer.specs.Told.{block_refusal, answer_for}

-- the answer in a kind for the bytes s and a result buffer of so many numbers
unfoldable pub block_answer_in : Reading → Kind → ℕ → List ℕ → ℕ → Answer
unfolding block_refusal answer_for
block_answer_in reading kind fp s numbers =
    pick (eqb (block_refusal fp (length s) numbers) 0) (answer_for (fault_in reading (takes_hdr kind) fp (number_of s))) (Refused (block_refusal fp (length s) numbers))

abbrev pub block_answer : Kind → ℕ → List ℕ → ℕ → Answer
block_answer kind fp s numbers = block_answer_in Ordinary kind fp s numbers

-- 01's number of it: the refusal, else the block's fault by the reading's and the kind's list, 0 for neither
unfoldable pub block_told_in : Reading → Kind → ℕ → List ℕ → ℕ → ℕ
unfolding block_refusal
block_told_in reading kind fp s numbers =
    pick (eqb (block_refusal fp (length s) numbers) 0) (fault_in reading (takes_hdr kind) fp (number_of s)) (block_refusal fp (length s) numbers)

abbrev pub block_told : Kind → ℕ → List ℕ → ℕ → ℕ
block_told kind fp s numbers = block_told_in Ordinary kind fp s numbers

-- what the buffer holds then: the block's numbers, or on a refusal what it held
unfoldable pub block_out_in : Reading → Kind → ℕ → List ℕ → List ℕ → List ℕ
unfolding block_refusal numbers_in
block_out_in reading kind fp s old = pick (eqb (block_refusal fp (length s) (length old)) 0) (numbers_in reading fp kind (number_of s)) old

abbrev pub block_out : Kind → ℕ → List ℕ → List ℕ → List ℕ
block_out kind fp s old = block_out_in Ordinary kind fp s old

-- the kinds that show a number of 16 bits as it is, 0 and 2: one code serves them
abbrev pub Words : Kind → Type 0
Words kind = (n : ℕ) → shown_of kind n ≡ n
