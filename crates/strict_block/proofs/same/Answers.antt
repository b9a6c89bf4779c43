use native.Mathlib.Omega.{arith}
use Rattle.strict_block.proofs.Laws.{low_differs, high_decides}
use Rattle.strict_block.proofs.same.Goals as goal

pub returns-then-a-b : goal.returns-then-a-b
returns-then-a-b c = low_differs _ _ (omega arith) (omega arith) c.if-a-b.true

pub returns : goal.returns
returns c = high_decides _ _ (omega arith) (omega arith) c.if-a-b.false
