use Rattle.bc7_core.proofs.Painting.{bits_least, bits_most, factor_at_lem}
use Rattle.bc7_core.proofs.factor_at.Goals as goal

-- src/lib.rt:146:5
pub next_factor-requires : goal.next_factor-requires
next_factor-requires c =
    let p = c.requires in
    (bits_least _ _ p.framed.0.known p.framed.0.plan _ p.framed.1 _ p.s_value.1 _ p.s_value.0, bits_most _ _ p.framed.0.known p.framed.0.plan _ p.framed.1 _ p.s_value.1 _ p.s_value.0, c.anchor_in.ensures.1)

-- src/lib.rt:141:1
pub returns : goal.returns
returns c =
    let p = c.requires in
    (factor_at_lem _ _ p.framed.0.known p.framed.0.plan _ p.framed.1 _ p.s_value.1 _ p.s_value.0 _ c.anchor_in.ensures.0 _ c.next_factor.ensures.0, c.next_factor.ensures.1)
