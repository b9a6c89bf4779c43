use mathlib.Core.Path.{refl}
use native.Mathlib.Omega.{arith}
use borrow.Author.Tests.{eq-eqb, ne_eqb}
use Rattle.block_header.specs.Counts.{partition_index_bits}
use Rattle.block_header.proofs.index_bits.Goals as goal

pub returns-then-partitions-eq1 : goal.returns-then-partitions-eq1
unfolding partition_index_bits
returns-then-partitions-eq1 c = rw (eq-eqb _ _ c.if-partitions-eq1.true) (refl, omega arith)

pub returns-else-partitions-eq1 : goal.returns-else-partitions-eq1
unfolding partition_index_bits
returns-else-partitions-eq1 c = rw (ne_eqb _ _ c.if-partitions-eq1.false) (refl, omega arith)
