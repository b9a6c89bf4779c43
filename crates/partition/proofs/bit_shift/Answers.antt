-- `partition::bit_shift` meets its contract. Assumes nothing.
use Rattle.std.proofs.Common.{arith, eq-eqb, ne_eqb}
use Rattle.partition.specs.Select.{bit_shift}
use Rattle.partition.proofs.bit_shift.Goals as goal

pub returns-then-seed-eq1 : goal.returns-then-seed-eq1
unfolding bit_shift
returns-then-seed-eq1 c = (rw (eq-eqb _ 1 c.if-seed-eq1.true), omega arith)

pub returns-else-seed-eq1 : goal.returns-else-seed-eq1
unfolding bit_shift
returns-else-seed-eq1 c = (rw (ne_eqb _ 1 c.if-seed-eq1.false), omega arith)
