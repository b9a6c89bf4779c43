use Rattle.symbolic_refusal.specs.inner.Stages.{bad_void_fields}
use Rattle.symbolic_refusal.proofs.bad_void_fields.Goals as goal

pub returns : goal.returns
unfolding bad_void_fields
returns c = rw (c.numbers_in_use-numbers.ensures, c.partitioning_in_use-partitioning.ensures, c.grid_in_use-grid.ensures, c.bad_shown-shown.ensures)
