use native.Mathlib.Omega.{arith}
use Rattle.symbolic_reader.proofs.Laws.{unknown_footprint_lem, not_sixteen, accepted}
use Rattle.symbolic_reader.proofs.check.Goals as goal

pub returns-then-fp-gt23 : goal.returns-then-fp-gt23
returns-then-fp-gt23 c = unknown_footprint_lem _ _ (omega arith)

pub returns-then-bytes-ne16 : goal.returns-then-bytes-ne16
returns-then-bytes-ne16 c = not_sixteen _ _ (omega arith) (λ q. omega (arith, q))

pub returns : goal.returns
returns c = accepted _ _ (omega arith) (omega arith)
