use Prim.Native.Nat.{◌*◌, ◌≤◌}
use native.Mathlib.Nat.{mul-le-mul}
use native.Mathlib.Omega.{arith}
use Rattle.block_buffer.proofs.place.Goals as goal
use Rattle.block_buffer.proofs.place.Goals.{Start}

small : (c : Start) → c.args.y * c.args.width ≤ 255 * 255
small c = mul-le-mul {n₂ = 255} {m₂ = 255} (omega arith) (omega arith)

pub overflow_mul-result : goal.overflow_mul-result
overflow_mul-result c = omega (arith, small c)

pub overflow_add-result : goal.overflow_add-result
overflow_add-result c = omega (arith, small c)

pub overflow_mul-result-2 : goal.overflow_mul-result-2
overflow_mul-result-2 c = omega (arith, small c)
