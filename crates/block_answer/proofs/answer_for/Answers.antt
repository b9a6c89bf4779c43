use native.Mathlib.Omega.{arith}
use borrow.Author.Tests.{eq-eqb, ne_eqb}
use Rattle.block_answer.specs.Told.{answer_for}
use Rattle.block_answer.proofs.answer_for.Goals as goal

pub returns-then-fault-eq0 : goal.returns-then-fault-eq0
unfolding answer_for
returns-then-fault-eq0 c = rw (eq-eqb c.args.fault 0 (omega arith))

pub returns-else-fault-eq0 : goal.returns-else-fault-eq0
unfolding answer_for
returns-else-fault-eq0 c = rw (ne_eqb c.args.fault 0 (λ q. omega (arith, q)))
