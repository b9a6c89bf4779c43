use mathlib.Core.Path.{◌≡◌}
use Rattle.laws.specs.Table.{padded}
use Rattle.weight_grid.specs.inner.Columns.{grid_column, no_column}
use Rattle.weight_grid.proofs.columns.Given as goal

abbrev pub invariant-loop-x : goal.invariant-loop-x
invariant-loop-x l = l.out ≡ padded 12 l.x (grid_column l.scale l.points) no_column
