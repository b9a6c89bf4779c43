-- 02, b: "Prove over reader and writer as they stand: of all blocks that read as a given acceptable sheet, exactly one passes the strict reading."
-- Of what the calls answer, over sixteen bytes: `reading_of` is what the reader answers, `sheet_in Strict` the strict reader, `writing_of` the writer.
-- Theorem: proofs/Calls.antt, `one_block_passes`.
-- Assumes nothing.
use Rattle.std.specs.Prelude.{◌≡◌, List, ℕ}
use Rattle.laws.specs.Table.{Bytes}
use Rattle.block_answer.specs.declared.Answer.TheVariants.{Faulty, Done}
use Rattle.symbolic_block.specs.declared.SymbolicBlock.{SymbolicBlock}
use Rattle.symbolic_block.specs.Fields.{Sized}
use Rattle.symbolic_block.specs.Refusals.{Acceptable}
use Rattle.block_reading.specs.declared.Reading.{Reading}
use Rattle.block_reading.specs.declared.Reading.TheVariants.{Ordinary, Strict}
use Rattle.symbolic_reader.specs.Answers.{nothing, reading_of}
use Rattle.symbolic_calls.specs.Writing.{writing_of}
use Rattle.strict_reader.specs.Sheets.{sheet_in}

-- the reader tells the sheet s of these bytes
pub record ReadBytes (fp : ℕ) (s : SymbolicBlock) (block : List ℕ) : Type 0 where
  pub bytes : Bytes block
  pub read : (reading_of fp block).answer ≡ Done
  pub same : (reading_of fp block).block ≡ s

-- of all bytes that read as s
pub record OneBlockPasses (fp : ℕ) (s : SymbolicBlock) : Type 0 where
  -- those that the writer writes are one of them, and pass
  pub written_reads : ReadBytes fp s (writing_of fp s).bytes
  pub written_passes : (sheet_in Strict fp (writing_of fp s).bytes).answer ≡ Done
  -- no others pass
  pub only_written : (block : List ℕ) → ReadBytes fp s block → (sheet_in Strict fp block).answer ≡ Done → block ≡ (writing_of fp s).bytes
  -- the others are told 21
  pub others_told : (block : List ℕ) → ReadBytes fp s block → (block ≡ (writing_of fp s).bytes → ⊥) → (sheet_in Strict fp block).answer ≡ Faulty 21

pub record StrictSheets : Type 0 where
  -- with the ordinary reading this is the reader as it stands
  pub ordinary : (fp : ℕ) (block : List ℕ) → sheet_in Ordinary fp block ≡ reading_of fp block
  -- "21 shows .. a sheet of zeros like any fault": whatever fault is told, with `nothing`
  pub zeros : (reading : Reading) (fp : ℕ) (block : List ℕ) (n : ℕ) → (sheet_in reading fp block).answer ≡ Faulty n → sheet_in reading fp block ≡ nothing (Faulty n)
  pub one_passes : (fp : ℕ) (s : SymbolicBlock) → Sized s → Acceptable fp s → OneBlockPasses fp s
