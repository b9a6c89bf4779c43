-- `half_line::half_on` meets its contract.
use Rattle.half_line.proofs.Line.{line_steps}
use borrow.Author.Rules.{rules}
use Rattle.half_line.proofs.half_on.Goals as goal

pub returns : goal.returns
returns c =
    let x2 = c.before.before in
    let x4 = x2.before.before in
    let x6 = x4.before.before in
    line_steps _ _ _ _ x6.chosen.ensures x6.shown.ensures x4.chosen-2.ensures x4.shown-2.ensures
    x2.chosen-3.ensures x2.shown-3.ensures c.chosen-4.ensures c.shown-4.ensures
