-- `weight_grid::grid_place` meets its contract. Assumes nothing.
use Prim.Native.Nat.{◌*◌, ◌≤◌}
use native.Mathlib.Nat.{mul-le-mul}
use native.Mathlib.Omega.{arith}
use Rattle.weight_grid.specs.Place.{grid_place}
use Rattle.weight_grid.proofs.grid_place.Goals as goal
use Rattle.weight_grid.proofs.grid_place.Goals.{After-less_one, Start}

across : (c : Start) → c.args.scale * c.args.i ≤ 65535 * 255
across c = mul-le-mul {n₂ = 65535} {m₂ = 255} (omega arith) (omega arith)

product : (c : After-less_one) → c.args.scale * c.args.i * c.less_one.result ≤ 65535 * 255 * 254
product c = mul-le-mul {n₂ = 65535 * 255} {m₂ = 254} (across c.before) (omega arith)

pub overflow_mul-result : goal.overflow_mul-result
overflow_mul-result c = omega (arith, across c)

pub overflow_mul-result-2 : goal.overflow_mul-result-2
overflow_mul-result-2 c = omega (arith, product c)

pub overflow_add-result : goal.overflow_add-result
overflow_add-result c = omega (arith, product c)

pub returns : goal.returns
unfolding grid_place
returns c = rw c.less_one.ensures
