use Rattle.symbolic_block.specs.Refusals.{bad_modes, some_in_use}
use Rattle.symbolic_refusal.specs.inner.Stages.{bad_lists}
use Rattle.symbolic_refusal.proofs.bad_lists.Goals as goal

pub returns : goal.returns
unfolding bad_lists bad_modes some_in_use
returns c = rw (c.within-extents.ensures, c.within-colours.ensures, c.modes_within-modes.ensures)
