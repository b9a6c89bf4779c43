use mathlib.Core.Path.{◌≡◌, ap, ◌∙◌}
use Rattle.laws.specs.Table.{tab}
use Rattle.block_answer.specs.Told.{number_told}
use Rattle.symbolic_calls.specs.declared.Writing.{Writing}
use Rattle.symbolic_calls.specs.Writing.{writing_of}
use Rattle.symbolic_numbers.specs.Numbers.{block_from}
use Rattle.symbolic_numbers.proofs.Laws.{write_4, kept_4, write_5, zeros_5, write_told, block_written}
use Rattle.symbolic_numbers.proofs.write_numbers.Goals as goal

pub returns-then-block-ne16 : goal.returns-then-block-ne16
returns-then-block-ne16 c = let a = c.args in
    let h = c.if-block-ne16.true in record { value = c.after_1.ensures ∙ write_4 a.footprint a.numbers.now a.block.now h; block_after = kept_4 a.footprint a.numbers.now a.block.now h }

pub returns-then-numbers-ne107 : goal.returns-then-numbers-ne107
unfolding tab
returns-then-numbers-ne107 c = let a = c.args in
    let e = c.if-block-ne16.false in
    let h = c.if-numbers-ne107.true in record { value = c.after_1-then-numbers-ne107.ensures ∙ write_5 a.footprint a.numbers.now a.block.now e h; block_after = c.copy_from_slice.ensures.after ∙ zeros_5 a.footprint a.numbers.now a.block.now e h }

pub returns : goal.returns
returns c =
    let a = c.args in
    let e = c.if-block-ne16.false in
    let l = c.if-numbers-ne107.false in
    let done : c.writing_of-writing.result ≡ writing_of a.footprint (block_from a.numbers.now) = c.writing_of-writing.ensures in
    record {
      value = c.number_told.ensures ∙ ap (λ (x : Writing). number_told x.answer) done ∙ write_told a.footprint a.numbers.now a.block.now e l;
      block_after = c.copy_from_slice-2.ensures.after ∙ ap (λ (x : Writing). x.bytes) done ∙ block_written a.footprint a.numbers.now a.block.now e l;
    }
