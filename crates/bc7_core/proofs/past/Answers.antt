use mathlib.Core.Path.{◌∙◌}
use Rattle.bc7_core.proofs.Painting.{bits_least, bits_most, behind_is}
use Rattle.bc7_core.proofs.past.Goals as goal

-- src/lib.rt:155:5
pub behind-requires : goal.behind-requires
behind-requires c =
    let p = c.requires in
    (bits_least _ _ p.framed.0.known p.framed.0.plan _ p.framed.1 _ p.s_value.1 _ p.s_value.0, bits_most _ _ p.framed.0.known p.framed.0.plan _ p.framed.1 _ p.s_value.1 _ p.s_value.0, c.anchor_in.ensures.1)

-- src/lib.rt:150:1
pub returns : goal.returns
returns c =
    let p = c.requires in
    c.behind.ensures ∙ behind_is _ _ p.framed.0.known p.framed.0.plan _ p.framed.1 _ p.s_value.1 _ p.s_value.0 _ c.anchor_in.ensures.0
