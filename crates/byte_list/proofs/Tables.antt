-- Lists as tables of their elements, and written out.
-- Assumes nothing.
use Prim.Native.Nat.{ℕ}
use mathlib.Core.Path.{◌≡◌, refl, sym}
use native.Mathlib.Omega.{arith}
use mathlib.Core.List.{List, [], ◌∷◌}
use lib.ListN.{length, get_or, set}
use Rattle.laws.specs.Table.{tab}
use Rattle.laws.specs.inner.Filled.{Filled}
use Rattle.laws.proofs.Filling.{filled_all}

-- a list is the table of its elements
pub tab_self : (l : List ℕ) (n : ℕ) → length l ≡ n → tab (λ k. get_or l k 0) n ≡ l
unfolding Filled
tab_self l n e = sym (filled_all (λ k. get_or l k 0) 0 l n e (λ k h. refl))

-- a list of three elements, each of them stored
pub three : (l : List ℕ) (a b c : ℕ) → length l ≡ 3 → set (set (set l 0 a) 1 b) 2 c ≡ a ∷ b ∷ c ∷ []
three [] a b c e = absurd (omega arith)
three (x ∷ []) a b c e = absurd (omega arith)
three (x ∷ y ∷ []) a b c e = absurd (omega arith)
three (x ∷ y ∷ z ∷ []) a b c e = refl
three (x ∷ y ∷ z ∷ v ∷ l) a b c e = absurd (omega arith)
