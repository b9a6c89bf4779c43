use Prim.Native.Nat.{◌-◌, ◌≤◌}
use lib.ListN.{get_or}
use Rattle.laws.proofs.Filling.{Filling}
use Rattle.integer_sequence.specs.Reading.{stored}
use Rattle.symbolic_reader.proofs.first_18.Given as goal

abbrev pub invariant-loop-i : goal.invariant-loop-i
invariant-loop-i l = Filling (λ k. get_or l.xs k (stored 0)) (stored 0) 18 l.out l.i
