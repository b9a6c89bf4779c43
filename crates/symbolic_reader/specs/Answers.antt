-- 01, "Numbers told to the caller": what the reader of symbolic blocks (01: sheets) answers. 02, i: it "uses kind 2's list", `fault_of true`.
-- Assumes nothing.
use Rattle.std.specs.Prelude.{ℕ, not, true, List, [], ◌∷◌, eqb, ltb, length}
use Rattle.laws.specs.Choice.{pick}
use Rattle.bits.specs.Block.{number_of}
use Rattle.laws.specs.Reasons.{when, first_of}
use Rattle.block_fault.specs.Faults.{fault_of}
use Rattle.block_answer.specs.declared.Answer.{Answer}
use Rattle.block_answer.specs.declared.Answer.TheVariants.{Refused, Faulty, Done}
use Rattle.symbolic_block.specs.declared.SymbolicBlock.{SymbolicBlock}
use Rattle.symbolic_block.specs.Reading.{zero_block, read_block}
use Rattle.symbolic_reader.specs.declared.SymbolicReading.{SymbolicReading}
use Rattle.spare_bits.specs.declared.Spare.{Spare}
use Rattle.spare_bits.specs.Spare.{no_spare, spare_of}

-- "The reader of sheets refuses 1 and 4", 1 being a footprint above 23 (02, h); 0 where it does not
unfoldable pub read_refusal : ℕ → ℕ → ℕ
read_refusal fp bytes = first_of (when (ltb 23 fp) 1 ∷ when (not (eqb bytes 16)) 4 ∷ [])

-- an answer with "a sheet of zeros"; 02, g: its spare bits are "0 and clear for solid blocks, faults and refusals"
abbrev pub nothing : Answer → SymbolicReading
nothing a = record { answer = a; block = zero_block; spare = no_spare }

abbrev pub done_with : SymbolicBlock → Spare → SymbolicReading
done_with s spare = record { answer = Done; block = s; spare = spare }

-- the symbolic block s that the 128 bits B read as, and the spare bits
abbrev pub done : ℕ → SymbolicBlock → SymbolicReading
done B s = done_with s (spare_of B s)

-- of 128 bits: "else tells the block's fault, with a sheet of zeros in both events", else the symbolic block
unfoldable pub reading_in : ℕ → ℕ → SymbolicReading
unfolding read_block zero_block
reading_in fp B = pick (eqb (fault_of true fp B) 0) (done B (read_block fp B)) (nothing (Faulty (fault_of true fp B)))

-- what the reader answers for the bytes s
unfoldable pub reading_of : ℕ → List ℕ → SymbolicReading
unfolding read_refusal reading_in
reading_of fp s = pick (eqb (read_refusal fp (length s)) 0) (reading_in fp (number_of s)) (nothing (Refused (read_refusal fp (length s))))

-- 01's number of the answer: the refusal, else the block's fault, 0 for neither
unfoldable pub read_told : ℕ → List ℕ → ℕ
unfolding read_refusal
read_told fp s = pick (eqb (read_refusal fp (length s)) 0) (fault_of true fp (number_of s)) (read_refusal fp (length s))
