-- `partition::offset_at` meets its contract. Assumes nothing.
use Rattle.std.proofs.Common.{◌*◌, ◌≤◌, refl, mul-le-mul, arith}
use Rattle.partition.proofs.offset_at.Goals as goal
use Rattle.partition.proofs.offset_at.Goals.{Start}

product : (c : Start) → c.args.r * c.args.z ≤ 225 * 65535
product c = mul-le-mul {n₂ = 225} {m₂ = 65535} c.requires (omega arith)

pub overflow_mul-result : goal.overflow_mul-result
overflow_mul-result c = omega (arith, product c)

pub overflow_add-result : goal.overflow_add-result
overflow_add-result c = omega (arith, product c)

pub returns : goal.returns
returns c = refl
