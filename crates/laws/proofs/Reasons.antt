-- Lists of reasons: that none holds, and which one is told.
-- Assumes nothing.
use mathlib.Core.Path.{◌≡◌, refl, subst, sym, ap, ◌∙◌}
use mathlib.Core.Bool.{Bool, true, false}
use mathlib.Core.List.{List, [], ◌∷◌}
use Prim.Native.Nat.{ℕ, zero, suc, ◌<◌, suc-le-suc}
use native.Mathlib.Nat.{not-suc-le-zero}
use native.Mathlib.Omega.{arith}
use lib.Dec.{T, ltb, eqb, ltb→lt}
use lib.ListN.{length}
use borrow.Author.Tests.{eqb-true, eqb-false}
use Rattle.laws.specs.Choice.{both, either}
use Rattle.laws.specs.Reasons.{Reason, when, first_of, reason_at, some}
use Rattle.laws.proofs.Computed.{both_left, both_right}

pub either_none : (a b : Bool) → either a b ≡ false → (a ≡ false) × (b ≡ false)
either_none true b e = absurd (subst T e tt)
either_none false b e = (refl, e)

pub none_either : (a b : Bool) → a ≡ false → b ≡ false → either a b ≡ false
none_either a b e f = rw (e, f)

-- a test that holds at no number below n
pub some_none : (f : ℕ → Bool) (n : ℕ) → some f n ≡ false → (k : ℕ) → k < n → f k ≡ false
some_none f zero e k h = absurd (not-suc-le-zero h)
some_none f (suc n) e k h = go (eqb k n) refl (some_none f n (either_none (f n) (some f n) e).1 k) where
  go : (b : Bool) → eqb k n ≡ b → (k < n → f k ≡ false) → f k ≡ false
  go true q below = ap f (eqb-true k n q) ∙ (either_none (f n) (some f n) e).0
  go false q below = below (omega (arith, eqb-false k n q))

pub none_some : (f : ℕ → Bool) (n : ℕ) → ((k : ℕ) → k < n → f k ≡ false) → some f n ≡ false
none_some f zero h = refl
none_some f (suc n) h = none_either (f n) (some f n) (h n (omega arith)) (none_some f n (λ k l. h k (omega arith)))

-- ---- lists of reasons

-- none of the reasons holds
abbrev pub None : List Reason → Type 0
None [] = Unit {0}
None (r ∷ rs) = (r.holds ≡ false) × None rs

-- facts in a row
infixr 4 ◌also◌
abbrev pub ◌also◌ : {A B : Type 0} → A → B → A × B
a also b = (a, b)

-- the numbers told are not 0
abbrev pub numbered : List Reason → Bool
numbered [] = true
numbered (r ∷ rs) = both (ltb 0 r.told) (numbered rs)

pub none_first : (rs : List Reason) → None rs → first_of rs ≡ 0
none_first [] h = refl
none_first (r ∷ rs) h = rw h.0 (none_first rs h.1)

pub first_none : (rs : List Reason) → T (numbered rs) → first_of rs ≡ 0 → None rs
first_none [] t e = tt
first_none (r ∷ rs) t e = go r.holds refl (first_none rs (both_right (ltb 0 r.told) (numbered rs) t)) where
  go : (b : Bool) → r.holds ≡ b → (first_of rs ≡ 0 → None rs) → (r.holds ≡ false) × None rs
  go true q rest =
      absurd (let z : r.told ≡ 0 = rw q at e in omega (arith, ltb→lt 0 r.told (both_left (ltb 0 r.told) (numbered rs) t)))
  go false q rest = (q, rest (rw q at e))

pub none_at : (rs : List Reason) → None rs → (i : ℕ) → (reason_at rs i).holds ≡ false
none_at [] h i = refl
none_at (r ∷ rs) h zero = h.0
none_at (r ∷ rs) h (suc i) = none_at rs h.1 i

pub at_none : (rs : List Reason) → ((i : ℕ) → i < length rs → (reason_at rs i).holds ≡ false) → None rs
at_none [] h = tt
at_none (r ∷ rs) h = (h 0 (omega arith), at_none rs (λ i l. h (suc i) (suc-le-suc l)))

-- the first that holds is told
pub first_told : (rs : List Reason) (i : ℕ) → (reason_at rs i).holds ≡ true → ((j : ℕ) → j < i → (reason_at rs j).holds ≡ false)
    → first_of rs ≡ (reason_at rs i).told
first_told [] i e h = absurd (subst T (sym e) tt)
first_told (r ∷ rs) zero e h = rw e
first_told (r ∷ rs) (suc i) e h = rw (h 0 (omega arith)) (first_told rs i e (λ j l. h (suc j) (suc-le-suc l)))
