-- `partition::count_shift` meets its contract. Assumes nothing.
use Rattle.std.proofs.Common.{arith, eq-eqb, ne_eqb}
use Rattle.partition.specs.Select.{count_shift}
use Rattle.partition.proofs.count_shift.Goals as goal

pub returns-then-count-eq3 : goal.returns-then-count-eq3
unfolding count_shift
returns-then-count-eq3 c = (rw (eq-eqb _ 3 c.if-count-eq3.true), omega arith)

pub returns-else-count-eq3 : goal.returns-else-count-eq3
unfolding count_shift
returns-else-count-eq3 c = (rw (ne_eqb _ 3 c.if-count-eq3.false), omega arith)
