use mathlib.Core.Path.{◌≡◌, refl, ◌∙◌}
use native.Mathlib.Omega.{arith}
use borrow.Author.Rules.{rules}
use Rattle.bits.specs.Field.{field}
use Rattle.pvrtc_texel.specs.Texel.{unorm8}
use Rattle.pvrtc_word.specs.inner.Lanes.{lane}
use Rattle.pvrtc_word.proofs.Texels.{lane_0, fits, texel_is}
use Rattle.pvrtc_word.proofs.texel_of.Goals as goal

pub colour_byte-red-requires : goal.colour_byte-red-requires
colour_byte-red-requires c = record { weight_bound = (c.weight-k.ensures.1, omega arith, omega arith); b_bound = fits _ _ _ _ _ _ _ _ c.punch_through-punch.ensures c.modulation-m.ensures.0 c.weight-k.ensures.0 c.requires.by_index 0 (omega arith) (lane_0 _) (lane_0 _) }

pub colour_byte-green-requires : goal.colour_byte-green-requires
unfolding unorm8 lane field
colour_byte-green-requires c = record { weight_bound = (c.weight-k.ensures.1, omega arith, omega arith); b_bound = fits _ _ _ _ _ _ _ _ c.punch_through-punch.ensures c.modulation-m.ensures.0 c.weight-k.ensures.0 c.requires.by_index 1 (omega arith) refl refl }

pub colour_byte-blue-requires : goal.colour_byte-blue-requires
unfolding unorm8 lane field
colour_byte-blue-requires c = record { weight_bound = (c.weight-k.ensures.1, omega arith, omega arith); b_bound = fits _ _ _ _ _ _ _ _ c.punch_through-punch.ensures c.modulation-m.ensures.0 c.weight-k.ensures.0 c.requires.by_index 2 (omega arith) refl refl }

pub alpha_byte-alpha-requires : goal.alpha_byte-alpha-requires
unfolding unorm8 lane field
alpha_byte-alpha-requires c = record { weight_bound = (c.weight-k.ensures.1, omega arith, omega arith); b_bound = fits _ _ _ _ _ _ _ _ c.punch_through-punch.ensures c.modulation-m.ensures.0 c.weight-k.ensures.0 c.requires.by_index 3 (omega arith) refl refl }

pub returns : goal.returns
unfolding unorm8 lane field
returns c =
    let k = c.before.before.before.before in
    texel_is _ _ _ _ _ _ _ _ k.punch_through-punch.ensures k.modulation-m.ensures.0 k.weight-k.ensures.0
    _ c.is_punched-clear.ensures
    (k.colour_byte-red.ensures ∙ rw (lane_0 k.args.a, lane_0 k.args.b))
    c.colour_byte-green.ensures
    c.colour_byte-blue.ensures
    c.alpha_byte-alpha.ensures
