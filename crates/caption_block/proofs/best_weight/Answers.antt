use mathlib.Core.Path.{ap}
use Rattle.integer_sequence.specs.Reading.{stored}
use Rattle.caption_block.proofs.Laws.{best_of_four}
use Rattle.caption_block.proofs.best_weight.Goals as goal

pub returns : goal.returns
returns c =
    let b3 = c in
    let b2 = b3 in
    ap stored
    (best_of_four _ c.squared.ensures c.squared-2.ensures
    c.squared-3.ensures c.squared-4.ensures c.better-second.ensures
    c.better-third.ensures c.better-last.ensures)
