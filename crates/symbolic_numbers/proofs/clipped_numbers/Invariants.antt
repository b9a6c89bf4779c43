use Prim.Native.Nat.{min}
use lib.ListN.{get_or}
use Rattle.laws.proofs.Filling.{Filling}
use Rattle.symbolic_numbers.proofs.clipped_numbers.Given as goal

abbrev pub invariant-loop-i : goal.invariant-loop-i
invariant-loop-i l = Filling (λ k. min (get_or l.numbers k 0) 255) 0 107 l.out l.i
