use mathlib.Core.Path.{◌≡◌}
use Prim.Native.Nat.{◌+◌}
use lib.Dec.{leb}
use lib.ListN.{get_or}
use Rattle.laws.specs.Choice.{all}
use Rattle.symbolic_numbers.proofs.endpoints_fit.Given as goal

abbrev pub invariant-loop-i : goal.invariant-loop-i
invariant-loop-i l = (l.ok ≡ all (λ k. leb (get_or l.numbers (21 + k) 0) 255) l.i)
