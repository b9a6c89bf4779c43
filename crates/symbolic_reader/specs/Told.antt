-- 02, g, of what the reader of symbolic blocks (01: sheets) answers. Theorem: proofs/SpareTold.antt, `spare_told`.
-- Assumes nothing.
use Rattle.std.specs.Prelude.{◌≡◌, true, false, List, ℕ, ◌+◌, ◌-◌, eqb, length}
use Rattle.laws.specs.Choice.{pick}
use Rattle.bits.specs.Block.{number_of}
use Rattle.block_fault.specs.Bits.{mode_at, is_void, header_at}
use Rattle.block_fault.specs.Faults.{fault_of}
use Rattle.block_answer.specs.declared.Answer.{Answer}
use Rattle.block_answer.specs.declared.Answer.TheVariants.{Refused, Done}
use Rattle.block_answer.specs.Told.{answer_for}
use Rattle.symbolic_block.specs.declared.SymbolicBlock.{SymbolicBlock}
use Rattle.symbolic_block.specs.Fields.{Sized}
use Rattle.symbolic_block.specs.Refusals.{Acceptable}
use Rattle.symbolic_block.specs.Reading.{zero_block, read_block}
use Rattle.symbolic_block.specs.Writing.{endpoints_end, component_from, block_of}
use Rattle.spare_bits.specs.Spare.{named_bits, no_spare, spare_count, spare_of}
use Rattle.symbolic_reader.specs.Answers.{read_refusal, read_told, reading_of}

-- the answer and the sheet by 01 alone, which knows no spare bits
unfoldable pub plain_answer : ℕ → List ℕ → Answer
unfolding read_refusal answer_for
plain_answer fp s = pick (eqb (read_refusal fp (length s)) 0) (answer_for (fault_of true fp (number_of s))) (Refused (read_refusal fp (length s)))

unfoldable pub plain_block : ℕ → List ℕ → SymbolicBlock
unfolding read_told read_block zero_block
plain_block fp s = pick (eqb (read_told fp s) 0) (read_block fp (number_of s)) zero_block

pub record SpareTold : Type 0 where
  -- "Sheets, faults and texels don't change": the old answer is a part of the new one (no definition of a texel knows of spare bits)
  pub same_answer : (fp : ℕ) (s : List ℕ) → (reading_of fp s).answer ≡ plain_answer fp s
  pub same_block : (fp : ℕ) (s : List ℕ) → (reading_of fp s).block ≡ plain_block fp s
  -- "so it is fixed by the sheet": the count that is told is the sheet's
  pub fixed : (fp : ℕ) (s : List ℕ) → (reading_of fp s).answer ≡ Done → (reading_of fp s).spare.count ≡ spare_count (reading_of fp s).block
  -- and so with two blocks that read as the same
  pub same_count : (fp fp2 : ℕ) (s t : List ℕ) → (reading_of fp s).answer ≡ Done → (reading_of fp2 t).answer ≡ Done
      → (reading_of fp s).block ≡ (reading_of fp2 t).block → (reading_of fp s).spare.count ≡ (reading_of fp2 t).spare.count
  -- these bits lie between the endpoint numbers and what is above them, and with the named fields they are all 128
  pub between : (fp B : ℕ) → is_void (mode_at fp B) ≡ false → fault_of true fp B ≡ 0
      → spare_count (read_block fp B) ≡ component_from (header_at fp B) - endpoints_end (header_at fp B)
  pub whole : (fp B : ℕ) → is_void (mode_at fp B) ≡ false → fault_of true fp B ≡ 0 → named_bits (header_at fp B) + spare_count (read_block fp B) ≡ 128
  -- "0 and clear for solid blocks, faults and refusals"
  pub solid : (fp : ℕ) (s : List ℕ) → (reading_of fp s).block.mark ≡ 1 → (reading_of fp s).spare ≡ no_spare
  pub not_read : (fp : ℕ) (s : List ℕ) → ((reading_of fp s).answer ≡ Done → ⊥) → (reading_of fp s).spare ≡ no_spare
  -- the writer sets none
  pub written_clear : (fp : ℕ) (s : SymbolicBlock) → Sized s → Acceptable fp s → (spare_of (block_of fp s) s).set ≡ false
