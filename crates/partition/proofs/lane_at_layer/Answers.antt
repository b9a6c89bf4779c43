-- `partition::lane_at_layer` meets its contract. Assumes nothing.
use Rattle.partition.specs.inner.Layers.{lane_at_layer}
use Rattle.partition.proofs.lane_at_layer.Goals as goal

pub returns-then-absent : goal.returns-then-absent
unfolding lane_at_layer
returns-then-absent c = rw c.if-absent.true

pub returns : goal.returns
unfolding lane_at_layer
returns c = rw (c.if-absent.false, c.offset_at.ensures)
