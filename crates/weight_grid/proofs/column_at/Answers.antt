use Prim.Native.Nat.{◌/◌, ◌≤◌}
use native.Mathlib.Omega.{arith}
use Rattle.weight_grid.specs.inner.Columns.{grid_column}
use Rattle.weight_grid.proofs.Points.{step_le}
use Rattle.weight_grid.proofs.column_at.Goals as goal
use Rattle.weight_grid.proofs.column_at.Goals.{After-step}

low : (c : After-step) → c.grid_place-place.result / 16 ≤ 11
low c = omega (arith, c.grid_place-place.ensures, c.requires)

one : (c : After-step) → c.step.result ≤ 1
one c = rw c.step.ensures (step_le c.grid_place-place.result c.args.points 1)

pub overflow_add-result : goal.overflow_add-result
unfolding grid_column
overflow_add-result c = omega (arith, low c, one c)

pub overflow_cast-result-2 : goal.overflow_cast-result-2
unfolding grid_column
overflow_cast-result-2 c = omega (arith, low c, one c)

pub returns : goal.returns
unfolding grid_column
returns c = rw (c.step.ensures, c.grid_place-place.ensures)
