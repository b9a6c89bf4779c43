-- 02, b: "a strict reading of block, picture and sheet", "21 shows magenta and a sheet of zeros like any fault"; 02, i: "The sheet reader,
-- ordinary or strict, uses kind 2's list". 02, g: on a fault the spare bits are 0 and clear, `nothing`.
-- Assumes nothing.
use Rattle.std.specs.Prelude.{ℕ, true, List, eqb, length}
use Rattle.laws.specs.Choice.{pick}
use Rattle.bits.specs.Block.{number_of}
use Rattle.block_answer.specs.declared.Answer.TheVariants.{Refused, Faulty}
use Rattle.symbolic_block.specs.Reading.{read_block}
use Rattle.block_reading.specs.declared.Reading.{Reading}
use Rattle.block_reading.specs.Faults.{fault_in}
use Rattle.symbolic_reader.specs.declared.SymbolicReading.{SymbolicReading}
use Rattle.symbolic_reader.specs.Answers.{read_refusal, nothing, done}

-- of 128 bits: the fault by the reading, else the symbolic block
unfoldable pub sheet_of : Reading → ℕ → ℕ → SymbolicReading
sheet_of reading fp B = pick (eqb (fault_in reading true fp B) 0) (done B (read_block fp B)) (nothing (Faulty (fault_in reading true fp B)))

-- what the reader answers for the bytes s; with Ordinary this is `reading_of` of the crate symbolic_reader, by computation
unfoldable pub sheet_in : Reading → ℕ → List ℕ → SymbolicReading
unfolding sheet_of read_refusal
sheet_in reading fp s = pick (eqb (read_refusal fp (length s)) 0) (sheet_of reading fp (number_of s)) (nothing (Refused (read_refusal fp (length s))))

-- 01's number of the answer: the refusal, else the block's fault, 0 for neither
unfoldable pub sheet_told : Reading → ℕ → List ℕ → ℕ
unfolding read_refusal
sheet_told reading fp s = pick (eqb (read_refusal fp (length s)) 0) (fault_in reading true fp (number_of s)) (read_refusal fp (length s))
