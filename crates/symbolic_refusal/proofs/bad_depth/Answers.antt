use mathlib.Core.Path.{sym, ◌∙◌}
use Rattle.symbolic_block.specs.Refusals.{bad_grid_depth}
use Rattle.symbolic_refusal.proofs.bad_depth.Goals as goal

pub returns-then-is_volume : goal.returns-then-is_volume
unfolding bad_grid_depth
returns-then-is_volume c = rw (sym c.is_volume.ensures ∙ c.if-is_volume.true, c.outside.ensures)

pub returns : goal.returns
unfolding bad_grid_depth
returns c = rw (sym c.is_volume.ensures ∙ c.if-is_volume.false, c.outside-2.ensures)
