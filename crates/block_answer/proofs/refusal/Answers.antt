use native.Mathlib.Omega.{arith}
use borrow.Author.Rules.{rules}
use Rattle.block_answer.proofs.Laws.{unknown_footprint_lem, not_sixteen, wrong_numbers, accepted}
use Rattle.block_answer.proofs.refusal.Goals as goal

pub returns-then-fp-gt23 : goal.returns-then-fp-gt23
returns-then-fp-gt23 c = unknown_footprint_lem _ _ _ (omega arith)

pub returns-then-bytes-ne16 : goal.returns-then-bytes-ne16
returns-then-bytes-ne16 c = not_sixteen _ _ _ (omega arith) (λ q. omega (arith, q))

pub returns-then-numbers-texels : goal.returns-then-numbers-texels
returns-then-numbers-texels c = wrong_numbers _ _ _ (omega arith) (omega arith) (λ q. omega (arith, q))

pub returns : goal.returns
returns c = accepted _ _ _ (omega arith) (omega arith) (omega arith)
