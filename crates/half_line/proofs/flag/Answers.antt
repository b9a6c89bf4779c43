-- `half_line::flag` meets its contract.
use Rattle.half_line.specs.inner.Line.{flag_of}
use Rattle.half_line.proofs.flag.Goals as goal

pub returns-then-b : goal.returns-then-b
unfolding flag_of
returns-then-b c = rw c.if-b.true

pub returns-else-b : goal.returns-else-b
unfolding flag_of
returns-else-b c = rw c.if-b.false
