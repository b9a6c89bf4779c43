-- `weight_grid::step` meets its contract. Assumes nothing.
use borrow.Author.Tests.{lt-ltb, le-ltb}
use Rattle.weight_grid.specs.inner.Points.{neighbour_step}
use Rattle.weight_grid.proofs.step.Goals as goal

pub returns-then-place-points : goal.returns-then-place-points
unfolding neighbour_step
returns-then-place-points c = rw (lt-ltb _ _ c.if-place-points.true)

pub returns-else-place-points : goal.returns-else-place-points
unfolding neighbour_step
returns-else-place-points c = rw (le-ltb _ _ c.if-place-points.false)
