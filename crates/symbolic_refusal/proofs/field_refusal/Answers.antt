use Rattle.symbolic_refusal.specs.inner.Stages.{field_reasons}
use Rattle.symbolic_refusal.proofs.field_refusal.Goals as goal

pub returns-then-unknown_footprint : goal.returns-then-unknown_footprint
unfolding field_reasons
returns-then-unknown_footprint c = rw (← c.unknown_footprint.ensures, c.if-unknown_footprint.true)

pub returns-then-bad_fields : goal.returns-then-bad_fields
unfolding field_reasons
returns-then-bad_fields c = rw (← c.unknown_footprint.ensures, c.if-unknown_footprint.false, ← c.bad_fields.ensures, c.if-bad_fields.true)

pub returns-then-no_block_mode : goal.returns-then-no_block_mode
unfolding field_reasons
returns-then-no_block_mode c =
    rw (← c.unknown_footprint.ensures, c.if-unknown_footprint.false, ← c.bad_fields.ensures, c.if-bad_fields.false, ← c.grid_of.ensures, ← c.no_block_mode.ensures, c.if-no_block_mode.true)

pub returns : goal.returns
unfolding field_reasons
returns c =
    rw (← c.unknown_footprint.ensures, c.if-unknown_footprint.false, ← c.bad_fields.ensures, c.if-bad_fields.false, ← c.grid_of.ensures, ← c.no_block_mode.ensures, c.if-no_block_mode.false)
