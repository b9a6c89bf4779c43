use mathlib.Core.Path.{◌≡◌}
use lib.ListN.{length, get_or}
use Rattle.symbolic_block.specs.Fields.{stored_in}
use Rattle.symbolic_numbers.proofs.Laid.{Laid}
use Rattle.symbolic_numbers.proofs.put.Given as goal

abbrev pub invariant-loop-i : goal.invariant-loop-i
invariant-loop-i l = Laid 0 l.i (λ k. get_or l.settings k 0) l.initial.numbers l.numbers × (length l.numbers ≡ 107)

abbrev pub invariant-loop-j : goal.invariant-loop-j
invariant-loop-j l = Laid 21 l.j (stored_in l.endpoints) l.initial.numbers l.numbers × (length l.numbers ≡ 107)

abbrev pub invariant-loop-k : goal.invariant-loop-k
invariant-loop-k l = Laid 39 l.k (stored_in l.weights) l.initial.numbers l.numbers × (length l.numbers ≡ 107)
