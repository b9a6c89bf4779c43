use Rattle.std.proofs.Common.{eq-eqb, ne_eqb}
use Rattle.laws.specs.Table.{tab_from, tab}
use Rattle.partition.proofs.row_partitions.Goals as goal

pub returns-then-partitions-eq1 : goal.returns-then-partitions-eq1
unfolding tab tab_from
returns-then-partitions-eq1 c = rw (eq-eqb _ _ c.if-partitions-eq1.true)

pub returns-else-partitions-eq1 : goal.returns-else-partitions-eq1
returns-else-partitions-eq1 c = rw (ne_eqb _ _ c.if-partitions-eq1.false) c.partition_row.ensures.value
