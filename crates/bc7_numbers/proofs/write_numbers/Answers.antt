use mathlib.Core.Path.{◌∙◌}
use Rattle.bc7_numbers.proofs.Laws.{write_4, kept_4, write_5, kept_5, write_told, block_written}
use Rattle.bc7_numbers.proofs.write_numbers.Goals as goal

pub returns-then-block-ne16 : goal.returns-then-block-ne16
returns-then-block-ne16 c = let a = c.args in
    let h = c.if-block-ne16.true in record { value = write_4 a.numbers.now a.block.now h; block_after = kept_4 a.numbers.now a.block.now h }

pub returns-then-numbers-ne60 : goal.returns-then-numbers-ne60
returns-then-numbers-ne60 c = let a = c.args in
    let e = c.if-block-ne16.false in
    let h = c.if-numbers-ne60.true in record { value = write_5 a.numbers.now a.block.now e h; block_after = kept_5 a.numbers.now a.block.now e h }

pub returns : goal.returns
returns c = let a = c.args in
    let e = c.if-block-ne16.false in
    let h = c.if-numbers-ne60.false in
    let f = c.copy_from_slice.ensures.after in
    let s = c.sheet_of-s.ensures in
    let w = c.write_bc7-writing.ensures.value in record { value = c.number_told.ensures ∙ write_told a.numbers.now a.block.now e h _ f _ s _ w; block_after = c.put_block.ensures ∙ block_written a.numbers.now a.block.now e h _ f _ s _ w }
