-- `partition::shifts` meets its contract. Assumes nothing.
use Rattle.std.proofs.Common.{arith, eq-eqb, ne_eqb}
use Rattle.partition.specs.Select.{sh1, sh2}
use Rattle.partition.proofs.shifts.Goals as goal

pub returns-then-seed-eq1 : goal.returns-then-seed-eq1
unfolding sh1 sh2
returns-then-seed-eq1 c = (rw (eq-eqb _ 1 c.if-seed-eq1.true) (c.bit_shift-bit.ensures.0, c.count_shift-three.ensures.0), (omega arith, omega arith))

pub returns-else-seed-eq1 : goal.returns-else-seed-eq1
unfolding sh1 sh2
returns-else-seed-eq1 c = (rw (ne_eqb _ 1 c.if-seed-eq1.false) (c.count_shift-three.ensures.0, c.bit_shift-bit.ensures.0), (omega arith, omega arith))
