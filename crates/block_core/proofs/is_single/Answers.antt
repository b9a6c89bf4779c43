use borrow.Author.Tests.{eq-eqb, ne_eqb}
use native.Mathlib.Omega.{arith}
use Rattle.block_core.proofs.is_single.Goals as goal

pub returns-then-partitions-ne1 : goal.returns-then-partitions-ne1
returns-then-partitions-ne1 c = rw (ne_eqb c.args.partitions 1 (omega arith))

pub returns : goal.returns
returns c = rw (eq-eqb c.args.partitions 1 (omega arith))
