-- `half_line::shown` meets its contract.
use borrow.Author.Rules.{rules}
use Rattle.half_line.proofs.shown.Goals as goal

pub returns : goal.returns
returns c = rw (c.half_of.ensures, c.mixed.ensures)
