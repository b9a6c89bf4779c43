use mathlib.Core.Path.{sym, ◌∙◌}
use Rattle.texel.specs.Meaning.{error_texel}
use Rattle.block_core.proofs.error_texel.Goals as goal

pub returns-then-half : goal.returns-then-half
unfolding error_texel
returns-then-half c = rw (sym c.takes_hdr-half.ensures ∙ c.if-half.true)

pub returns-else-half : goal.returns-else-half
unfolding error_texel
returns-else-half c = rw (sym c.takes_hdr-half.ensures ∙ c.if-half.false)
