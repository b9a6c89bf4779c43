use Rattle.bc7_core.proofs.Indices.{primary_set_is}
use Rattle.bc7_core.proofs.primary_set.Goals as goal

pub returns : goal.returns
returns c = let p = c.requires in primary_set_is _ _ p.row p.known _ _ _ p.indices c.wide.ensures.0 c.word_at.ensures
