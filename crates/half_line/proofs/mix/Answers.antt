use mathlib.Core.Path.{sym, ◌∙◌}
use borrow.Author.Rules.{rules}
use Rattle.half_line.specs.inner.Line.{texel_on}
use Rattle.half_line.proofs.mix.Goals as goal

pub returns-then-takes_hdr : goal.returns-then-takes_hdr
unfolding texel_on
returns-then-takes_hdr c = rw (sym c.takes_hdr.ensures ∙ c.if-takes_hdr.true) c.mix_half.ensures

pub returns-else-takes_hdr : goal.returns-else-takes_hdr
unfolding texel_on
returns-else-takes_hdr c = rw (sym c.takes_hdr.ensures ∙ c.if-takes_hdr.false) c.mix_line.ensures.value
