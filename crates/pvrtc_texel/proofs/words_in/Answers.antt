use mathlib.Core.Path.{refl}
use Prim.Native.Nat.{◌*◌, ◌/◌, ◌≤◌}
use native.Mathlib.Omega.{arith}
use Rattle.pvrtc_texel.specs.Image.{words_in}
use Rattle.pvrtc_texel.proofs.Sides.{product_most}
use Rattle.pvrtc_texel.proofs.words_in.Goals as goal
use Rattle.pvrtc_texel.proofs.words_in.Goals.{Start}

few : (c : Start) → c.args.w / 4 * (c.args.h / 4) ≤ 1048576
few c = product_most 1024 (omega arith) (omega arith)

pub returns : goal.returns
unfolding words_in
returns c = (refl, few c)

pub overflow_mul-result : goal.overflow_mul-result
overflow_mul-result c = omega (arith, few c)
