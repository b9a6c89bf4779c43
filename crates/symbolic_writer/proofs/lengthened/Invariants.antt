use mathlib.Core.Path.{◌≡◌}
use Prim.Native.Nat.{◌-◌, ◌≤◌}
use lib.ListN.{get_or}
use Rattle.laws.specs.Table.{padded}
use Rattle.integer_sequence.specs.Reading.{stored}
use Rattle.symbolic_writer.proofs.lengthened.Given as goal

abbrev pub invariant-loop-i : goal.invariant-loop-i
invariant-loop-i l = (l.out ≡ padded 64 l.i (λ k. get_or l.xs k (stored 0)) (stored 0))
