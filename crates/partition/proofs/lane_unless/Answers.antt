-- `partition::lane_unless` meets its contract. Assumes nothing.
use Rattle.partition.specs.inner.Seeds.{lane_unless}
use Rattle.partition.proofs.lane_unless.Goals as goal

pub returns-then-absent : goal.returns-then-absent
unfolding lane_unless
returns-then-absent c = rw c.if-absent.true

pub returns-else-absent : goal.returns-else-absent
unfolding lane_unless
returns-else-absent c = rw (c.if-absent.false, c.lane_for.ensures)
