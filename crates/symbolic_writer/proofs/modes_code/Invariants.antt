use mathlib.Core.Path.{◌≡◌}
use Prim.Native.Nat.{◌-◌, ◌*◌, ◌%◌, ◌≤◌}
use lib.ListN.{get_or}
use Rattle.bits.specs.Field.{stream}
use Rattle.symbolic_block.specs.Writing.{class_bit}
use Rattle.symbolic_writer.proofs.modes_code.Given as goal

abbrev pub invariant-loop-i : goal.invariant-loop-i
invariant-loop-i l =
    (l.classes ≡ stream (λ j. j) (λ j. class_bit l.selector (get_or l.modes j 0)) l.i) × (l.lows ≡ stream (λ j. 2 * j) (λ j. get_or l.modes j 0 % 4) l.i)
    × (l.classes ≤ 256 * l.i) × (l.lows ≤ 768 * l.i)
