use native.Mathlib.Omega.{arith}
use Rattle.bits.specs.Block.{block_number}
use Rattle.bits.proofs.Halves.{top_past, top_first, top_low, low_fits, top_high, high_fits}
use Rattle.bits.proofs.on_top.Goals as goal

pub returns-then-p-ge128 : goal.returns-then-p-ge128
returns-then-p-ge128 c = top_past c.args.a (omega arith) (omega arith) c.args.p c.args.v c.requires c.if-p-ge128.true

pub returns-then-p-eq0 : goal.returns-then-p-eq0
unfolding block_number
returns-then-p-eq0 c = top_first c.args.a (omega arith) (omega arith) c.args.p c.args.v c.requires c.if-p-eq0.true (omega arith)

pub overflow_add-result : goal.overflow_add-result
overflow_add-result c = record { fits = low_fits c.args.a (omega arith) (omega arith) c.args.p c.args.v c.requires c.if-p-lt64.true }

pub returns-then-p-lt64 : goal.returns-then-p-lt64
unfolding block_number
returns-then-p-lt64 c = top_low c.args.a (omega arith) (omega arith) c.args.p c.args.v c.requires c.if-p-lt64.true (omega arith) (omega arith)

pub overflow_add-result-2 : goal.overflow_add-result-2
overflow_add-result-2 c = record { fits = high_fits c.args.a (omega arith) (omega arith) c.args.p c.args.v c.requires c.if-p-lt64.false (omega arith) }

pub returns : goal.returns
unfolding block_number
returns c = top_high c.args.a (omega arith) (omega arith) c.args.p c.args.v c.requires c.if-p-lt64.false (omega arith)
