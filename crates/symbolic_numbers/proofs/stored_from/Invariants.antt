use Prim.Native.Nat.{◌+◌}
use lib.ListN.{get_or}
use Rattle.laws.proofs.Filling.{Filling}
use Rattle.integer_sequence.specs.Reading.{stored}
use Rattle.symbolic_numbers.proofs.stored_from.Given as goal

abbrev pub invariant-loop-i : goal.invariant-loop-i
invariant-loop-i g l = Filling (λ k. stored (get_or l.bytes (l.from + k) 0)) (stored 0) g.row.N l.out l.i
