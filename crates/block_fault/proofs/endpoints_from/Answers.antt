use borrow.Author.Tests.{eq-eqb, ne_eqb}
use Rattle.block_header.specs.Counts.{partition_index_bits, selector_bits}
use Rattle.block_fault.specs.Bits.{endpoints_from}
use Rattle.block_fault.proofs.endpoints_from.Goals as goal

pub returns-then-partitions-eq1 : goal.returns-then-partitions-eq1
unfolding endpoints_from partition_index_bits selector_bits
returns-then-partitions-eq1 c = rw (eq-eqb _ _ c.if-partitions-eq1.true)

pub returns-else-partitions-eq1 : goal.returns-else-partitions-eq1
unfolding endpoints_from partition_index_bits selector_bits
returns-else-partitions-eq1 c = rw (ne_eqb _ _ c.if-partitions-eq1.false)
