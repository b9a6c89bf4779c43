use Prim.Native.Nat.{ℕ, ◌-◌, ◌≤◌, ◌/◌}
use mathlib.Core.List.{List}
use lib.ListN.{length, get_or}
use Rattle.laws.proofs.Filling.{Filling}
use Rattle.one_block.proofs.copy_bytes.Given as goal

abbrev pub told : List ℕ → ℕ → ℕ
told from k = get_or from k 0 / 256

abbrev pub invariant-loop-i : goal.invariant-loop-i
invariant-loop-i l = (l.i ≤ length l.initial.out) × (length l.initial.out ≤ 864) × Filling (told l.from) 0 (length l.initial.out) l.out l.i

abbrev pub decreases-loop-i : goal.decreases-loop-i
decreases-loop-i l = length l.initial.out - l.i
