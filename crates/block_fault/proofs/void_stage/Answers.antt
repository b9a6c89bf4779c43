use mathlib.Core.Path.{◌≡◌, sym, ◌∙◌}
use Rattle.bits.specs.Block.{block_number}
use Rattle.footprint.specs.Footprint.{is_volume}
use Rattle.void_extent.specs.Layout.{bad_void_extent}
use Rattle.block_fault.proofs.Laws.{void_extents, void_hdr, void_sound}
use Rattle.block_fault.proofs.void_stage.Goals as goal
use Rattle.block_fault.proofs.void_stage.Goals.{After-bad_void_extent}

bad_is : (c : After-bad_void_extent) → bad_void_extent (is_volume c.args.fp) (block_number c.args.b) ≡ c.bad_void_extent.result
bad_is c = rw (← c.requires) (sym c.bad_void_extent.ensures)

pub returns-then-bad_void_extent : goal.returns-then-bad_void_extent
returns-then-bad_void_extent c = let s = c.before.before in (void_extents s.args.hdr s.args.fp (block_number s.args.b) (bad_is c.before ∙ c.if-bad_void_extent.true))

pub returns-then-hdr_refused : goal.returns-then-hdr_refused
returns-then-hdr_refused c =
    let d = c.before.before.before in
    let s = d.before in
    (void_hdr s.args.hdr s.args.fp (block_number s.args.b) (bad_is d ∙ c.if-bad_void_extent.false) (sym c.hdr_refused.ensures ∙ c.if-hdr_refused.true))

pub returns : goal.returns
returns c =
    let d = c.before.before.before in
    let s = d.before in
    (void_sound s.args.hdr s.args.fp (block_number s.args.b) (bad_is d ∙ c.if-bad_void_extent.false) (sym c.hdr_refused.ensures ∙ c.if-hdr_refused.false))
