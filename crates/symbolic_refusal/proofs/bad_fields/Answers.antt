use Rattle.symbolic_block.specs.Refusals.{bad_mark, bad_hdr}
use Rattle.symbolic_refusal.specs.inner.Stages.{bad_fields}
use Rattle.symbolic_refusal.proofs.bad_fields.Goals as goal

pub returns : goal.returns
unfolding bad_fields bad_mark bad_hdr
returns c = rw (c.bad_lists-lists.ensures, c.bad_partitioning-partitioning.ensures, c.bad_grid-grid.ensures)
