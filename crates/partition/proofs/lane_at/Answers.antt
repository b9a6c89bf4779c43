-- `partition::lane_at` meets its contract. Assumes nothing.
use Rattle.std.proofs.Common.{◌*◌, ◌≤◌, refl, mul-le-mul, arith}
use Rattle.partition.specs.inner.Seeds.{lane_by}
use Rattle.partition.proofs.lane_at.Goals as goal
use Rattle.partition.proofs.lane_at.Goals.{Start}

across : (c : Start) → c.args.l.x * c.args.x ≤ 65535 * 255
across c = mul-le-mul {n₂ = 65535} {m₂ = 255} (omega arith) (omega arith)

down : (c : Start) → c.args.l.y * c.args.y ≤ 65535 * 255
down c = mul-le-mul {n₂ = 65535} {m₂ = 255} (omega arith) (omega arith)

pub overflow_mul-result : goal.overflow_mul-result
overflow_mul-result c = omega (arith, across c.before)

pub overflow_mul-result-2 : goal.overflow_mul-result-2
overflow_mul-result-2 c = omega (arith, down c.before.before)

pub overflow_add-result : goal.overflow_add-result
overflow_add-result c = omega (arith, across c.before.before, down c.before.before)

pub overflow_add-result-2 : goal.overflow_add-result-2
overflow_add-result-2 c = omega (arith, across c.before.before.before, down c.before.before.before)

pub returns : goal.returns
unfolding lane_by
returns c = refl
