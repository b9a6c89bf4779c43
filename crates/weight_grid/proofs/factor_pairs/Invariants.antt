use mathlib.Core.Path.{◌≡◌}
use Prim.Native.Nat.{◌%◌}
use lib.ListN.{length, get_or}
use Rattle.laws.proofs.Filling.{Filling}
use Rattle.weight_grid.specs.inner.Pairs.{upper_pair, lower_pair}
use Rattle.weight_grid.proofs.factor_pairs.Given as goal

abbrev pub invariant-loop-x : goal.invariant-loop-x
invariant-loop-x l =
    (length l.initial.upper ≡ 16 → Filling (λ k. upper_pair (get_or l.places k 0 % 16) (l.gt % 16)) 0 16 l.upper l.x) × (length l.initial.lower ≡ 16 → Filling (λ k. lower_pair (get_or l.places k 0 % 16) (l.gt % 16)) 0 16 l.lower l.x)
