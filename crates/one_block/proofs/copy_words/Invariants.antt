use Prim.Native.Nat.{ℕ, ◌-◌, ◌≤◌}
use mathlib.Core.List.{List}
use lib.ListN.{length, get_or}
use Rattle.laws.proofs.Filling.{Filling}
use Rattle.one_block.proofs.copy_words.Given as goal

abbrev pub told : List ℕ → ℕ → ℕ
told from k = get_or from k 0

abbrev pub invariant-loop-k : goal.invariant-loop-k
invariant-loop-k l = (l.k ≤ length l.initial.out) × (length l.initial.out ≤ 864) × Filling (told l.from) 0 (length l.initial.out) l.out l.k

abbrev pub decreases-loop-k : goal.decreases-loop-k
decreases-loop-k l = length l.initial.out - l.k
