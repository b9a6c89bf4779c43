use mathlib.Core.Path.{sym, ◌∙◌}
use Rattle.void_extent.specs.Layout.{axes_of, extent_most}
use Rattle.symbolic_block.specs.Refusals.{bad_extent_fields}
use Rattle.symbolic_refusal.proofs.bad_extent_fields.Goals as goal

pub returns-then-is_volume : goal.returns-then-is_volume
unfolding bad_extent_fields axes_of extent_most
returns-then-is_volume c = rw (sym c.is_volume.ensures ∙ c.if-is_volume.true, c.within.ensures)

pub returns : goal.returns
unfolding bad_extent_fields axes_of extent_most
returns c = rw (sym c.is_volume.ensures ∙ c.if-is_volume.false, c.within-2.ensures)
