use mathlib.Core.Path.{◌∙◌}
use Rattle.bc7_block.proofs.Bounds.{rotation_here}
use Rattle.bc7_block.proofs.Known.{fits}
use Rattle.bc7_ends.proofs.Places.{rotation_bits_lem, rotation_is}
use Rattle.bc7_ends.proofs.rotation.Goals as goal

pub small_field-requires : goal.small_field-requires
small_field-requires c =
    let p = c.requires in
    rotation_bits_lem _ p.known _ p.row _ _ _ 0 0 (c.wide.ensures.0 ∙ p.mode) c.wide-2.ensures.0 c.wide-3.ensures.0

pub returns : goal.returns
returns c =
    let p = c.requires in
    let r = rotation_is _ p.known _ p.row _ _ _ 0 _ (c.wide.ensures.0 ∙ p.mode) c.wide-2.ensures.0 c.wide-3.ensures.0 c.small_field.ensures in
    (r, rw r (rotation_here _ _ p.known (fits _ p.known)))
