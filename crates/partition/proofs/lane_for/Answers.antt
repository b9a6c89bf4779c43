-- `partition::lane_for` meets its contract. Assumes nothing.
use Rattle.partition.specs.inner.Seeds.{lane_for}
use Rattle.partition.proofs.lane_for.Goals as goal

pub returns : goal.returns
unfolding lane_for
returns c = rw (c.doubled_seed.ensures, c.doubled_seed-2.ensures)
