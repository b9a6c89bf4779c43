-- Of all bytes that read as an acceptable sheet, those of the writer alone pass the strict reader.
-- Assumes nothing.
use mathlib.Core.Path.{◌≡◌, refl, sym, ap, ◌∙◌, subst}
use mathlib.Core.Bool.{true}
use mathlib.Core.List.{List}
use Prim.Native.Nat.{ℕ, ◌*◌, ◌<◌}
use native.Mathlib.Omega.{arith}
use lib.ListN.{length, get_or}
use Rattle.laws.proofs.Filling.{tab_all}
use Rattle.bits.specs.Field.{field}
use Rattle.bits.specs.Block.{number_of, bytes_of}
use Rattle.bits.proofs.Fields.{field_lt}
use Rattle.bits.proofs.Blocks.{bytes_number}
use Rattle.laws.specs.Table.{Bytes}
use Rattle.block_answer.specs.declared.Answer.TheVariants.{Faulty, Done}
use Rattle.block_answer.specs.Told.{number_told}
use Rattle.symbolic_block.specs.declared.SymbolicBlock.{SymbolicBlock}
use Rattle.symbolic_block.specs.Fields.{Sized}
use Rattle.symbolic_block.specs.Refusals.{Acceptable}
use Rattle.symbolic_block.specs.Writing.{block_of}
use Rattle.symbolic_block.specs.Reading.{ReadsAs}
use Rattle.symbolic_block.proofs.Demand.{demand_3}
use Rattle.block_reading.specs.declared.Reading.TheVariants.{Strict}
use Rattle.block_reading.specs.Faults.{strict_fault}
use Rattle.block_reading.specs.OnePasses.{Reads, OnePasses}
use Rattle.block_reading.proofs.Strict.{strict_reading}
use Rattle.symbolic_reader.specs.declared.SymbolicReading.{SymbolicReading}
use Rattle.symbolic_reader.specs.Answers.{reading_of}
use Rattle.symbolic_calls.specs.Writing.{writing_of}
use Rattle.round_trip.proofs.Laws.{bytes_are, number, back}
use Rattle.strict_reader.specs.Sheets.{sheet_in}
use Rattle.strict_reader.specs.Calls.{ReadBytes, OneBlockPasses, StrictSheets}
use Rattle.strict_reader.proofs.Laws.{ordinary, sheet_told_lem, told_fault, sheet_sound, sheet_faulty, faulty_zeros, Read, read}

small : (v : ℕ) → Bytes (bytes_of 16 v)
unfolding bytes_of
small v k = tab_all (λ x. x < 256) (λ i. field v (8 * i) 8) 0 (λ i. field_lt v (8 * i) 8) (omega arith) 16 k

module _ (fp : ℕ) (s : SymbolicBlock) (z : Sized s) (a : Acceptable fp s) where
  abbrev written : List ℕ
  written = (writing_of fp s).bytes

  abbrev one : OnePasses fp s
  one = strict_reading.one_passes fp s z a

  written_read : ReadBytes fp s written
  written_read = record {
    bytes = subst Bytes (sym (bytes_are fp s z a)) (small (block_of fp s));
    read = ap (λ (r : SymbolicReading). r.answer) (back fp s z a);
    same = ap (λ (r : SymbolicReading). r.block) (back fp s z a);
  }

  module _ (block : List ℕ) (h : ReadBytes fp s block) where
    abbrev facts : Read fp block
    facts = read fp block h.read

    reads : Reads fp s (number_of block)
    reads = record {
      no_fault = facts.no_fault;
      reads = subst (ReadsAs fp (number_of block)) (sym facts.block ∙ h.same) (demand_3.reads_as fp (number_of block) facts.no_fault);
    }

    -- bytes are written where their number is the writer's
    bytes_back : number_of block ≡ block_of fp s → block ≡ written
    bytes_back e =
        sym (subst (λ (n : ℕ). bytes_of n (number_of block) ≡ block) facts.sixteen (bytes_number block h.bytes))
        ∙ ap (bytes_of 16) e ∙ sym (bytes_are fp s z a)

    only : (sheet_in Strict fp block).answer ≡ Done → block ≡ written
    only d = bytes_back (one.only_written (number_of block) reads (sym (told_fault Strict fp block facts.none) ∙ sym (sheet_told_lem Strict fp block) ∙ ap number_told d))

    others : (block ≡ written → ⊥) → (sheet_in Strict fp block).answer ≡ Faulty 21
    others n =
        ap (λ (r : SymbolicReading). r.answer)
        (sheet_faulty Strict fp block facts.none 21 (one.others_told (number_of block) reads (λ e. n (bytes_back e))) (λ q. omega (arith, q)))

  passes : (sheet_in Strict fp written).answer ≡ Done
  passes =
      ap (λ (r : SymbolicReading). r.answer)
      (sheet_sound Strict fp written (facts written written_read).none (ap (strict_fault true fp) (number fp s z a) ∙ one.written_passes))

  one_passes : OneBlockPasses fp s
  one_passes = record { written_reads = written_read; written_passes = passes; only_written = only; others_told = others }

pub one_block_passes : StrictSheets
one_block_passes = record { ordinary = ordinary; zeros = faulty_zeros; one_passes = one_passes }
