use mathlib.Core.Path.{refl}
use Prim.Native.Nat.{◌*◌, ◌≤◌}
use native.Mathlib.Omega.{arith}
use Rattle.volume_layout.proofs.Sizes.{three}
use native.Mathlib.Nat.{mul-le-mul}
use Rattle.volume_layout.proofs.product.Goals as goal
use Rattle.volume_layout.proofs.product.Goals.{Start}

layer : (c : Start) → c.args.deep * c.args.down ≤ 2048 * 16384
layer c = mul-le-mul c.requires.0 c.requires.1

whole : (c : Start) → c.args.deep * c.args.down * c.args.across ≤ 2048 * 16384 * 16384
whole c = three _ _ _ 2048 16384 16384 c.requires.0 c.requires.1 c.requires.2

pub overflow_mul-result : goal.overflow_mul-result
overflow_mul-result c = omega (arith, layer c)

pub overflow_mul-result-2 : goal.overflow_mul-result-2
overflow_mul-result-2 c = omega (arith, whole c)

pub returns : goal.returns
returns c = (refl, omega (arith, whole c))
