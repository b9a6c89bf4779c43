use Prim.Native.Nat.{◌*◌}
use Rattle.bits.specs.Field.{field}
use Rattle.sequence_numbers.proofs.Alone.{Held}
use Rattle.sequence_numbers.proofs.bits_from.Given as goal

abbrev pub invariant-loop-k : goal.invariant-loop-k
invariant-loop-k l = Held l.n (λ j. field l.word (j * l.b) l.b) l.k l.out
