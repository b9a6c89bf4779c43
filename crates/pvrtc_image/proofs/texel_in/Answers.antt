use mathlib.Core.Path.{◌∙◌}
use native.Mathlib.Omega.{arith}
use Rattle.pvrtc_texel.specs.Texel.{relative}
use Rattle.pvrtc_image.specs.inner.Lines.{sample_a, sample_b, own_word, shown_on_line}
use Rattle.pvrtc_image.proofs.texel_in.Goals as goal

pub texel_of-requires : goal.texel_of-requires
unfolding sample_a sample_b own_word relative
texel_of-requires c = let p = c.requires in record { x_bound = (omega arith, omega arith); by_index = λ k h. rw (c.blend-a.ensures, c.blend-b.ensures) (p.1.bytes k h) }

pub returns : goal.returns
unfolding shown_on_line sample_a sample_b own_word relative
returns c = c.texel_of.ensures ∙ rw (c.blend-a.ensures, c.blend-b.ensures)
