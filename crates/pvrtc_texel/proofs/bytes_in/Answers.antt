use mathlib.Core.Path.{refl}
use Prim.Native.Nat.{◌*◌, ◌≤◌}
use native.Mathlib.Omega.{arith}
use Rattle.pvrtc_texel.proofs.Sides.{product_most}
use Rattle.pvrtc_texel.proofs.bytes_in.Goals as goal
use Rattle.pvrtc_texel.proofs.bytes_in.Goals.{Start}

few : (c : Start) → c.args.w * c.args.h ≤ 16777216
few c = product_most 4096 (omega arith) (omega arith)

pub overflow_mul-result : goal.overflow_mul-result
overflow_mul-result c = omega (arith, few c)

pub overflow_mul-result-2 : goal.overflow_mul-result-2
overflow_mul-result-2 c = omega (arith, few c)

pub returns : goal.returns
returns c = refl
