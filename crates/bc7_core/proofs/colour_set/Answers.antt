use mathlib.Core.Path.{refl}
use Rattle.bc7_core.proofs.Indices.{colour_unselected, colour_second, colour_first, has_secondary, set_by}
use Rattle.bc7_core.proofs.colour_set.Goals as goal

pub returns-then-row-ne1 : goal.returns-then-row-ne1
returns-then-row-ne1 c = let p = c.requires in set_by _ _ _ _ c.primary_set.ensures (colour_unselected _ _ p.row p.known _ refl c.if-row-ne1.true)

pub secondary_set-requires : goal.secondary_set-requires
secondary_set-requires c = let p = c.requires in (p, has_secondary _ _ p.row p.known _ refl c.if-row-ne1.false)

pub returns-then-selection-eq1 : goal.returns-then-selection-eq1
returns-then-selection-eq1 c =
    let p = c.requires in
    set_by _ _ _ _ c.secondary_set.ensures (colour_second _ _ p.row p.known _ c.selection.ensures c.if-row-ne1.false c.if-selection-eq1.true)

pub returns : goal.returns
returns c =
    let p = c.requires in
    set_by _ _ _ _ c.primary_set-2.ensures (colour_first _ _ p.row p.known _ c.selection.ensures c.if-row-ne1.false c.if-selection-eq1.false)
