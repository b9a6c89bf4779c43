-- `half_line::half_line` meets its contract.
use Rattle.half_line.specs.inner.Line.{half_line_of}
use borrow.Author.Rules.{rules}
use Rattle.half_line.proofs.half_line.Goals as goal

pub returns : goal.returns
unfolding half_line_of
returns c = rw (c.flag-colour.ensures, c.flag-alpha.ensures)
