-- `partition::third_shift` meets its contract. Assumes nothing.
use Rattle.std.proofs.Common.{eq-eqb, ne_eqb}
use Rattle.partition.specs.Select.{sh3}
use Rattle.partition.proofs.third_shift.Goals as goal

pub returns-then-seed-eq1 : goal.returns-then-seed-eq1
unfolding sh3
returns-then-seed-eq1 c = (rw (eq-eqb _ 1 c.if-seed-eq1.true) c.shifts-sh.ensures.0.0, c.shifts-sh.ensures.1.0)

pub returns-else-seed-eq1 : goal.returns-else-seed-eq1
unfolding sh3
returns-else-seed-eq1 c = (rw (ne_eqb _ 1 c.if-seed-eq1.false) c.shifts-sh.ensures.0.1, c.shifts-sh.ensures.1.1)
