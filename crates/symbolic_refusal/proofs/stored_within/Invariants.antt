use mathlib.Core.Path.{◌≡◌}
use Rattle.symbolic_block.specs.Fields.{stored_in}
use Rattle.symbolic_block.specs.Refusals.{within}
use Rattle.symbolic_refusal.proofs.stored_within.Given as goal

abbrev pub invariant-loop-i : goal.invariant-loop-i
invariant-loop-i g l = l.ok ≡ within l.i l.n l.most (stored_in l.xs)
