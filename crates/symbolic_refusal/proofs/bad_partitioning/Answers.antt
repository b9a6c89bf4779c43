use Rattle.symbolic_block.specs.Refusals.{bad_partitions}
use Rattle.symbolic_refusal.specs.inner.Stages.{bad_partitioning}
use Rattle.symbolic_refusal.proofs.bad_partitioning.Goals as goal

pub returns : goal.returns
unfolding bad_partitioning bad_partitions
returns c = rw (c.bad_component.ensures, c.bad_selector-selector.ensures, c.bad_index-index.ensures, c.outside-partitions.ensures)
