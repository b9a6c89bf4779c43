use mathlib.Core.Path.{◌≡◌}
use lib.ListN.{get_or}
use Rattle.laws.specs.Reasons.{some}
use Rattle.symbolic_block.specs.Refusals.{misfit}
use Rattle.symbolic_refusal.proofs.modes_misfit.Given as goal

abbrev pub invariant-loop-p : goal.invariant-loop-p
invariant-loop-p l = l.bad ≡ some (λ k. misfit l.h.selector (get_or l.modes 0 0) (get_or l.modes k 0)) l.p
