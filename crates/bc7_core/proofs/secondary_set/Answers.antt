use native.Mathlib.Omega.{arith}
use Rattle.bc7_core.proofs.Indices.{secondary_set_is, has_index}
use Rattle.bc7_core.proofs.secondary_set.Goals as goal

pub overflow_sub-f : goal.overflow_sub-f
overflow_sub-f c = let p = c.requires in omega (arith, has_index _ _ _ p.0.row p.0.known c.wide-2.ensures.0)

pub returns : goal.returns
returns c =
    let p = c.requires in
    secondary_set_is _ _ p.0.row p.0.known _ _ _ p.0.indices _ p.1 c.wide.ensures.0 c.wide-2.ensures.0 c.word_at.ensures
