use mathlib.Core.Path.{refl}
use Rattle.bits.specs.Field.{field}
use Rattle.pvrtc_texel.specs.Word.{punch_through}
use Rattle.pvrtc_word.proofs.punch_through.Goals as goal

pub returns : goal.returns
unfolding punch_through field
returns c = refl
