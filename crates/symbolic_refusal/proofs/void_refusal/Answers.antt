use mathlib.Core.Path.{◌≡◌, ◌∙◌}
use Rattle.laws.specs.Reasons.{first_of}
use Rattle.symbolic_refusal.specs.inner.Stages.{void_stages}
use Rattle.symbolic_refusal.proofs.Laws.{void_stages_lem}
use Rattle.symbolic_refusal.proofs.void_refusal.Goals as goal

pub returns-then-unknown_footprint : goal.returns-then-unknown_footprint
unfolding void_stages
returns-then-unknown_footprint c =
    let e : 1 ≡ first_of (void_stages c.args.fp c.args.s) = rw (← c.unknown_footprint.ensures, c.if-unknown_footprint.true) in
    e ∙ void_stages_lem c.args.fp c.args.s

pub returns-then-bad_void_fields : goal.returns-then-bad_void_fields
unfolding void_stages
returns-then-bad_void_fields c =
    let e : 31 ≡ first_of (void_stages c.args.fp c.args.s)
    = rw (← c.unknown_footprint.ensures, c.if-unknown_footprint.false, ← c.bad_void_fields.ensures, c.if-bad_void_fields.true) in
    e ∙ void_stages_lem c.args.fp c.args.s

pub returns-then-bad_extents : goal.returns-then-bad_extents
unfolding void_stages
returns-then-bad_extents c =
    let e : 12 ≡ first_of (void_stages c.args.fp c.args.s)
    = rw (← c.unknown_footprint.ensures, c.if-unknown_footprint.false, ← c.bad_void_fields.ensures, c.if-bad_void_fields.false, ← c.bad_extents.ensures, c.if-bad_extents.true) in
    e ∙ void_stages_lem c.args.fp c.args.s

pub returns : goal.returns
unfolding void_stages
returns c =
    let e : 0 ≡ first_of (void_stages c.args.fp c.args.s)
    = rw (← c.unknown_footprint.ensures, c.if-unknown_footprint.false, ← c.bad_void_fields.ensures, c.if-bad_void_fields.false, ← c.bad_extents.ensures, c.if-bad_extents.false) in
    e ∙ void_stages_lem c.args.fp c.args.s
