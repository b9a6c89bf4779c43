use mathlib.Core.Path.{ap}
use lib.Dec.{ltb}
use Rattle.pvrtc_texel.specs.Image.{bad_pvrtc_side}
use Rattle.pvrtc_texel.proofs.bad_side.Goals as goal

pub returns : goal.returns
unfolding bad_pvrtc_side
returns c = ap (ltb 10) c.side_bits.ensures
