use mathlib.Core.Path.{◌∙◌}
use Rattle.partition_texel.proofs.channel.Goals as goal

pub returns : goal.returns
returns c = c.mixed.ensures ∙ rw (c.expanded.ensures, c.expanded-2.ensures)
