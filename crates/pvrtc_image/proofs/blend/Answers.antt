use mathlib.Core.Path.{refl}
use Prim.Native.Nat.{◌-◌, ◌*◌, ◌^◌, ◌≤◌}
use native.Mathlib.Nat.{mul-le-mul}
use native.Mathlib.Omega.{arith}
use Rattle.pvrtc_image.specs.inner.Lines.{between}
use Rattle.pvrtc_image.proofs.blend.Goals as goal
use Rattle.pvrtc_image.proofs.blend.Goals.{Start}

-- both products are small
first : (c : Start) → c.args.a * (4 - c.args.p) ≤ 2 ^ 58 * 4
first c = mul-le-mul {n₂ = 2 ^ 58} {m₂ = 4} (omega arith) (omega arith)

second : (c : Start) → c.args.b * c.args.p ≤ 2 ^ 58 * 4
second c = mul-le-mul {n₂ = 2 ^ 58} {m₂ = 4} (omega arith) (omega arith)

pub returns : goal.returns
unfolding between
returns c = refl

pub overflow_mul-result : goal.overflow_mul-result
overflow_mul-result c = omega (arith, first c)

pub overflow_mul-result-2 : goal.overflow_mul-result-2
overflow_mul-result-2 c = omega (arith, second c)

pub overflow_add-result : goal.overflow_add-result
overflow_add-result c = omega (arith, first c, second c)
