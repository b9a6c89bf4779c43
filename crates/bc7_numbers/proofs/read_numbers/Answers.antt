use mathlib.Core.Path.{◌∙◌}
use Rattle.bc7_numbers.proofs.Laws.{read_short, list_kept, read_told, list_read}
use Rattle.bc7_numbers.proofs.read_numbers.Goals as goal

pub returns-then-numbers-ne60 : goal.returns-then-numbers-ne60
returns-then-numbers-ne60 c = let a = c.args in
    let h = c.if-numbers-ne60.true in record { value = c.or_5.ensures ∙ read_short a.block.now a.numbers.now h; numbers_after = list_kept a.block.now a.numbers.now h }

pub returns : goal.returns
returns c = let a = c.args in
    let h = c.if-numbers-ne60.false in
    let e = c.read_bc7-reading.ensures.value in record { value = c.number_told.ensures ∙ read_told a.block.now a.numbers.now h _ e; numbers_after = c.put.ensures ∙ list_read a.block.now a.numbers.now h _ e }
