use mathlib.Core.Path.{◌≡◌}
use lib.ListN.{get_or}
use Rattle.symbolic_block.specs.Refusals.{within}
use Rattle.symbolic_refusal.proofs.within.Given as goal

abbrev pub invariant-loop-i : goal.invariant-loop-i
invariant-loop-i g l = l.ok ≡ within l.i l.n l.most (λ k. get_or l.xs k 0)
