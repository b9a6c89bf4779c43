use Rattle.symbolic_block.specs.Refusals.{bad_width, bad_height, bad_range, bad_planes}
use Rattle.symbolic_refusal.specs.inner.Stages.{bad_grid}
use Rattle.symbolic_refusal.proofs.bad_grid.Goals as goal

pub returns : goal.returns
unfolding bad_grid bad_width bad_height bad_range bad_planes
returns c = rw (c.outside-planes.ensures, c.bad_depth-depth.ensures, c.outside-height.ensures, c.outside-width.ensures)
