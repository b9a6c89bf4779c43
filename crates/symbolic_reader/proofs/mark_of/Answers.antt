use mathlib.Core.Path.{sym, ◌∙◌}
use Rattle.symbolic_reader.proofs.mark_of.Goals as goal

pub returns-then-some_hdr : goal.returns-then-some_hdr
returns-then-some_hdr c = rw (sym c.some_hdr.ensures ∙ c.if-some_hdr.true)

pub returns-else-some_hdr : goal.returns-else-some_hdr
returns-else-some_hdr c = rw (sym c.some_hdr.ensures ∙ c.if-some_hdr.false)
