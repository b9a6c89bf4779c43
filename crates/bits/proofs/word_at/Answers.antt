use native.Mathlib.Omega.{arith}
use Rattle.bits.proofs.Halves.{word_high, word_past}
use Rattle.bits.proofs.word_at.Goals as goal

pub returns-then-p-lt128 : goal.returns-then-p-lt128
returns-then-p-lt128 c = word_high c.args.b (omega arith) (omega arith) c.args.p (omega arith)

pub returns : goal.returns
returns c = word_past c.args.b (omega arith) (omega arith) c.args.p (omega arith)
