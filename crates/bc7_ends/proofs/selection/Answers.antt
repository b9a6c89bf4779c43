use mathlib.Core.Path.{◌∙◌}
use Rattle.bc7_ends.proofs.Places.{selection_bits_lem, selection_is}
use Rattle.bc7_ends.proofs.selection.Goals as goal

pub small_field-requires : goal.small_field-requires
small_field-requires c =
    let p = c.requires in
    selection_bits_lem _ p.known _ p.row _ _ _ _ 0 (c.wide.ensures.0 ∙ p.mode) c.wide-2.ensures.0 c.wide-3.ensures.0 c.wide-4.ensures.0

pub returns : goal.returns
returns c =
    let p = c.requires in
    selection_is _ p.known _ p.row _ _ _ _ _ (c.wide.ensures.0 ∙ p.mode) c.wide-2.ensures.0 c.wide-3.ensures.0 c.wide-4.ensures.0 c.small_field.ensures
