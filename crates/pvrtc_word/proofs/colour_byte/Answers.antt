use native.Mathlib.Omega.{arith}
use borrow.Author.Rules.{rules}
use Rattle.pvrtc_texel.specs.Texel.{unorm8}
use Rattle.pvrtc_word.proofs.colour_byte.Goals as goal

pub modulate-requires : goal.modulate-requires
unfolding unorm8
modulate-requires c = record { weight_bound = (omega arith, omega arith, omega arith); b_bound = c.requires.b_bound }

pub returns : goal.returns
unfolding unorm8
returns c = c.modulate.ensures
