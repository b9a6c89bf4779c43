use mathlib.Core.Path.{refl}
use native.Mathlib.Omega.{arith}
use borrow.Author.Rules.{rules}
use Rattle.bits.specs.Field.{field}
use Rattle.pvrtc_texel.specs.Word.{modulation_at}
use Rattle.pvrtc_word.proofs.modulation.Goals as goal

pub returns : goal.returns
unfolding modulation_at field
returns c = (refl, omega arith)
