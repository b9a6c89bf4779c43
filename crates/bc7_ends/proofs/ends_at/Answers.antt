use Rattle.bc7_ends.proofs.Places.{ends_is}
use Rattle.bc7_ends.proofs.ends_at.Goals as goal

pub returns : goal.returns
returns c =
    let p = c.requires in
    ends_is _ _ p.0 p.1 _ _ _ _ c.wide.ensures.0 c.wide-2.ensures.0 c.wide-3.ensures.0 c.wide-4.ensures.0
