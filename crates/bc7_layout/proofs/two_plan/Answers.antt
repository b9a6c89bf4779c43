use native.Mathlib.Omega.{arith}
use borrow.Author.Rules.{rules}
use Rattle.bc7_layout.proofs.Packing.{run_first, run_at}
use Rattle.bc7_layout.proofs.two_plan.Goals as goal

pub returns-then-i-lt16 : goal.returns-then-i-lt16
returns-then-i-lt16 c = run_first 2 _ _ c.two_0-t.ensures c.if-i-lt16.true

pub returns-then-i-lt32 : goal.returns-then-i-lt32
returns-then-i-lt32 c = run_at 2 16 _ _ c.two_16-t.ensures (omega arith) (omega arith)

pub returns-then-i-lt48 : goal.returns-then-i-lt48
returns-then-i-lt48 c = run_at 2 32 _ _ c.two_32-t.ensures (omega arith) (omega arith)

pub returns : goal.returns
returns c = run_at 2 48 _ _ c.two_48-t.ensures (omega arith) (omega arith)
