-- `endpoint_arithmetic::scaled` meets its contract.
use native.Mathlib.Omega.{arith}
use native.Mathlib.Nat.{mul-le-mul}
use Prim.Native.Nat.{◌*◌, ◌≤◌}
use borrow.Author.Rules.{rules}
use Rattle.endpoint_arithmetic.proofs.scaled.Goals as goal
use Rattle.endpoint_arithmetic.proofs.scaled.Goals.{Start}

product : (c : Start) → c.args.n * c.args.s ≤ 255 * 255
product c = mul-le-mul {n₂ = 255} {m₂ = 255} (omega arith) (omega arith)

pub overflow_mul-result : goal.overflow_mul-result
overflow_mul-result c = omega (arith, product c)

pub overflow_cast-result-3 : goal.overflow_cast-result-3
overflow_cast-result-3 c = omega (arith, product c)
