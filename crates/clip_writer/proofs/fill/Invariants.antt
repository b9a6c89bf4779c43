use mathlib.Core.List.{List, ◌++◌}
use mathlib.Core.Path.{◌≡◌}
use Prim.Native.Nat.{ℕ, ◌+◌}
use lib.ListN.{length, get_or}
use Rattle.laws.proofs.Filling.{Filling}
use Rattle.clip_writer.proofs.fill.Given as goal

abbrev pub told : List ℕ → List ℕ → ℕ → ℕ
told h s k = get_or (h ++ s) k 0

abbrev pub invariant-loop-k : goal.invariant-loop-k
invariant-loop-k l = Filling (told l.head l.blocks) 0 (length l.initial.out) l.out l.k
