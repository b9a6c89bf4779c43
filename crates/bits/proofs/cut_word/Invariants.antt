use mathlib.Core.Path.{◌≡◌}
use Prim.Native.Nat.{◌+◌, ◌-◌, ◌*◌}
use Rattle.bits.specs.Field.{field}
use Rattle.bits.specs.Block.{number_of}
use Rattle.bits.proofs.cut_word.Given as goal

abbrev pub invariant-loop-left : goal.invariant-loop-left
invariant-loop-left l = l.word ≡ field (number_of l.s) (8 * (l.k + l.left)) (64 - 8 * l.left)
