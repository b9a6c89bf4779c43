use Prim.Native.Nat.{◌+◌, ◌*◌, ◌≤◌}
use native.Mathlib.Nat.{mul-le-mul}
use native.Mathlib.Omega.{arith}
use borrow.Author.Rules.{rules}
use Rattle.volume_infill.proofs.point_at.Goals as goal
use Rattle.volume_infill.proofs.point_at.Goals.{Start}

rows : (c : Start) → c.args.z * c.args.height ≤ 255 * 255
rows c = mul-le-mul {n₂ = 255} {m₂ = 255} c.requires.2 (omega arith)

all : (c : Start) → (c.args.z * c.args.height + c.args.y) * c.args.width ≤ 65280 * 255
all c = mul-le-mul {n₂ = 65280} {m₂ = 255} (omega (arith, rows c, c.requires.1)) (omega arith)

pub overflow_mul-row : goal.overflow_mul-row
overflow_mul-row c = omega (arith, rows c)

pub overflow_add-row : goal.overflow_add-row
overflow_add-row c = omega (arith, rows c)

pub overflow_mul-result : goal.overflow_mul-result
overflow_mul-result c = omega (arith, rows c, all c)

pub overflow_add-result : goal.overflow_add-result
overflow_add-result c = omega (arith, rows c, all c)
