use borrow.Author.Tests.{eq-eqb, ne_eqb}
use native.Mathlib.Omega.{arith}
use Rattle.block_core.proofs.on_points.Goals as goal

pub returns-then-partitions-ne1 : goal.returns-then-partitions-ne1
returns-then-partitions-ne1 c = rw (ne_eqb c.args.partitions 1 (omega arith))

pub returns-then-g-f : goal.returns-then-g-f
returns-then-g-f c = let a = c.args in rw (eq-eqb a.partitions 1 (omega arith), ne_eqb a.g.width a.f.width (omega arith))

pub returns : goal.returns
returns c = let a = c.args in rw (eq-eqb a.partitions 1 (omega arith), eq-eqb a.g.width a.f.width (omega arith))
