-- The least place at which a function is least, and sums of least terms.
-- Assumes nothing.
use mathlib.Core.Path.{◌≡◌, refl, ap₂}
use mathlib.Core.Bool.{Bool, true, false}
use Prim.Native.Nat.{ℕ, zero, suc, ◌+◌, ◌≤◌, ◌<◌}
use native.Mathlib.Omega.{arith}
use native.Mathlib.Decide.{dec_le}
use lib.Dec.{ltb}
use borrow.Author.Tests.{ltb-true, ltb-false}
use Rattle.laws.specs.Choice.{pick}
use Rattle.grey_caption.specs.Caption.{least_at}
use Rattle.grey_caption.specs.Best.{sum_of}

module _ (f : ℕ → ℕ) where
  -- what is to be known of the least place r of 0, .., n
  record Least (n r : ℕ) : Type 0 where
    pub within : r ≤ n
    pub least : (v : ℕ) → v ≤ n → f r ≤ f v
    pub first : (v : ℕ) → v ≤ n → f v ≤ f r → r ≤ v

  step : (n r : ℕ) → Least n r → Least (suc n) (pick (ltb (f (suc n)) (f r)) (suc n) r)
  step n r k = go (ltb (f (suc n)) (f r)) refl where
    last : (v : ℕ) → v ≤ suc n → (v ≤ n → ⊥) → v ≡ suc n
    last v h l = omega arith

    go : (b : Bool) → ltb (f (suc n)) (f r) ≡ b → Least (suc n) (pick b (suc n) r)
    go true e =
        let m : f (suc n) < f r = ltb-true (f (suc n)) (f r) e in
        record {
          within = omega arith;
          least = λ v h. elim (dec_le v n) [ yes l ↦ omega (arith, k.least v l) | no l ↦ rw (last v h l) (omega arith) ];
          first = λ v h g. elim (dec_le v n) [ yes l ↦ omega (arith, k.least v l) | no l ↦ omega arith ];
        }
    go false e =
        let m : f r ≤ f (suc n) = ltb-false (f (suc n)) (f r) e in
        record {
          within = omega (arith, k.within);
          least = λ v h. elim (dec_le v n) [ yes l ↦ k.least v l | no l ↦ rw (last v h l) m ];
          first = λ v h g. elim (dec_le v n) [ yes l ↦ k.first v l g | no l ↦ omega (arith, k.within) ];
        }

  found : (n : ℕ) → Least n (least_at f n)
  unfolding least_at
  found zero = record {
    within = omega arith;
    least = λ v h. let z : v ≡ 0 = omega arith in rw z (omega arith);
    first = λ v h g. omega arith;
  }
  found (suc n) = step n (least_at f n) (found n)

  pub least_within : (n : ℕ) → least_at f n ≤ n
  least_within n = (found n).within

  pub least_at_lem : (n v : ℕ) → v ≤ n → f (least_at f n) ≤ f v
  least_at_lem n = (found n).least

  pub least_first : (n v : ℕ) → v ≤ n → f v ≤ f (least_at f n) → least_at f n ≤ v
  least_first n = (found n).first

-- ---- sums

module _ (f g : ℕ → ℕ) where
  pub sum_ext : (n : ℕ) → ((i : ℕ) → i < n → f i ≡ g i) → sum_of f n ≡ sum_of g n
  unfolding sum_of
  sum_ext zero h = refl
  sum_ext (suc n) h = ap₂ ◌+◌ (sum_ext n (λ i l. h i (omega arith))) (h n (omega arith))

  pub sum_le : (n : ℕ) → ((i : ℕ) → i < n → f i ≤ g i) → sum_of f n ≤ sum_of g n
  unfolding sum_of
  sum_le zero h = omega arith
  sum_le (suc n) h = omega (arith, sum_le n (λ i l. h i (omega arith)), h n (omega arith))

  -- equal sums of terms none of which is larger have equal terms
  pub sum_same : (n : ℕ) → ((i : ℕ) → i < n → f i ≤ g i) → sum_of f n ≡ sum_of g n → (i : ℕ) → i < n → g i ≤ f i
  unfolding sum_of
  sum_same zero h e i l = omega arith
  sum_same (suc n) h e i l =
      let below : sum_of f n ≤ sum_of g n = sum_le n (λ i l. h i (omega arith)) in
      let here : f n ≤ g n = h n (omega arith) in
      elim (dec_le n i) [
        | yes m ↦ let q : i ≡ n = omega arith in rw q (omega arith)
        | no m ↦ sum_same n (λ i l. h i (omega arith)) (omega arith) i (omega arith)
      ]
