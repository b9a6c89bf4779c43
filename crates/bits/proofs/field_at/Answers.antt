use mathlib.Core.Path.{◌∙◌}
use Rattle.bits.proofs.Halves.{low_field}
use Rattle.bits.proofs.field_at.Goals as goal

pub returns : goal.returns
returns c = c.low_bits.ensures ∙ rw c.word_at.ensures (low_field _ _ _)
