use mathlib.Core.Path.{◌≡◌}
use Rattle.laws.specs.Table.{padded}
use Rattle.weight_grid.specs.Place.{grid_place}
use Rattle.weight_grid.proofs.places.Given as goal

abbrev pub invariant-loop-i : goal.invariant-loop-i
invariant-loop-i l = l.out ≡ padded 16 l.i (λ k. grid_place l.scale k l.points) 0
