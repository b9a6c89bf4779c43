use Prim.Native.Nat.{◌<◌}
use native.Mathlib.Omega.{arith}
use Rattle.block_fault.proofs.Laws.{mode_none, mode_same, mode_own}
use Rattle.block_fault.proofs.mode_for.Goals as goal

pub returns-then-partitions-i : goal.returns-then-partitions-i
returns-then-partitions-i c = mode_none c.args.partitions c.args.selector c.args.code c.args.i c.if-partitions-i.true

pub overflow_cast-result : goal.overflow_cast-result
overflow_cast-result c = let h : c.args.code < 16 = c.requires.3 c.if-selector-eq0.true in omega arith

pub returns-then-selector-eq0 : goal.returns-then-selector-eq0
returns-then-selector-eq0 c = mode_same c.args.partitions c.args.selector c.args.code c.args.i (omega arith) c.if-selector-eq0.true

pub returns : goal.returns
returns c = rw c.wide.ensures.0 (mode_own c.args.partitions c.args.selector c.args.code c.args.i (omega arith) c.if-selector-eq0.false)
