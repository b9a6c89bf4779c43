use mathlib.Core.Path.{◌∙◌}
use Rattle.bc7_codec.proofs.Whole.{fields_read}
use Rattle.bc7_codec.proofs.read_fields.Goals as goal

pub returns : goal.returns
returns c = c.fields_in.ensures ∙ fields_read _ _ _ c.requires.0 c.partition_at-p.ensures.0
