-- `void_extent::extent_most` meets its contract. Assumes nothing.
use Rattle.void_extent.specs.Layout.{extent_most}
use Rattle.void_extent.proofs.extent_most.Goals as goal

pub returns-then-volume : goal.returns-then-volume
unfolding extent_most
returns-then-volume c = rw c.if-volume.true

pub returns-else-volume : goal.returns-else-volume
unfolding extent_most
returns-else-volume c = rw c.if-volume.false
