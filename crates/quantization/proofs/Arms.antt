-- What the last arm of a match on a number knows: the number is none of the keys before it.
-- Assumes nothing.
use mathlib.Core.Path.{◌≡◌, refl}
use mathlib.Core.Bool.{Bool, true, false}
use mathlib.Core.List.{List, [], ◌∷◌}
use Prim.{Unit}
use Prim.Native.Nat.{ℕ, ◌<◌}
use lib.Dec.{T, eqb}
use borrow.Author.Tests.{eqb-true}
use Rattle.laws.specs.Choice.{either, all}
use Rattle.laws.proofs.Computed.{each}

-- k is none of the keys, the last key first
abbrev pub Misses : ℕ → List ℕ → Type 0
Misses k [] = Unit
Misses k (n ∷ ns) = Misses k ns × (k ≡ n → ⊥)

abbrev pub among : ℕ → List ℕ → Bool
among k [] = false
among k (n ∷ ns) = either (eqb k n) (among k ns)

missed : (P : ℕ → Bool) (k : ℕ) (ns : List ℕ) → Misses k ns → T (either (among k ns) (P k)) → T (P k)
missed P k [] m t = t
missed P k (n ∷ ns) m t = go (eqb k n) refl t (missed P k ns m.0) where
  go : (b : Bool) → eqb k n ≡ b → T (either (either b (among k ns)) (P k)) → (T (either (among k ns) (P k)) → T (P k)) → T (P k)
  go true e t others = absurd (m.1 (eqb-true k n e))
  go false e t others = others t

-- where each number below n is a key or passes, a number that misses the keys passes
pub rest : (P : ℕ → Bool) (ns : List ℕ) (n : ℕ) → T (all (λ k. either (among k ns) (P k)) n) → (k : ℕ) → k < n → Misses k ns → T (P k)
rest P ns n t k h m = missed P k ns m (each (λ k. either (among k ns) (P k)) n t k h)
