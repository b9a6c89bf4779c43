use mathlib.Core.Path.{refl}
use Rattle.bc7_core.proofs.Indices.{alpha_alone, some_secondary, alpha_always, alpha_second, alpha_first, set_by}
use Rattle.bc7_core.proofs.alpha_set.Goals as goal

pub returns-then-row-eq0 : goal.returns-then-row-eq0
returns-then-row-eq0 c = let p = c.requires in set_by _ _ _ _ c.primary_set.ensures (alpha_alone _ _ p.row p.known _ refl c.if-row-eq0.true)

pub secondary_set-requires : goal.secondary_set-requires
secondary_set-requires c = let p = c.requires in (p, some_secondary _ _ p.row p.known _ refl c.if-row-eq0.false)

pub returns-then-row-eq0-2 : goal.returns-then-row-eq0-2
returns-then-row-eq0-2 c =
    let p = c.requires in
    set_by _ _ _ _ c.secondary_set.ensures (alpha_always _ _ p.row p.known _ refl c.if-row-eq0.false c.if-row-eq0-2.true)

pub secondary_set-requires-then-selection-eq0 : goal.secondary_set-requires-then-selection-eq0
secondary_set-requires-then-selection-eq0 c = let p = c.requires in (p, some_secondary _ _ p.row p.known _ refl c.if-row-eq0.false)

pub returns-then-selection-eq0 : goal.returns-then-selection-eq0
returns-then-selection-eq0 c =
    let p = c.requires in
    set_by _ _ _ _ c.secondary_set-then-selection-eq0.ensures (alpha_second _ _ p.row p.known _ c.selection.ensures c.if-row-eq0.false c.if-row-eq0-2.false c.if-selection-eq0.true)

pub returns : goal.returns
returns c =
    let p = c.requires in
    set_by _ _ _ _ c.primary_set-2.ensures (alpha_first _ _ p.row p.known _ c.selection.ensures c.if-row-eq0.false c.if-row-eq0-2.false c.if-selection-eq0.false)
