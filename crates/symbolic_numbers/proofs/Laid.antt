-- Numbers laid in a part of a list: the list of a symbolic block is laid in four parts.
-- Assumes nothing.
use mathlib.Core.Path.{◌≡◌, refl, sym, ap, ◌∙◌, subst}
use mathlib.Core.List.{List}
use Prim.Native.Nat.{ℕ, ◌+◌, ◌-◌, ◌<◌}
use native.Mathlib.Nat.{zero-add}
use native.Mathlib.Decide.{dec_lt}
use native.Mathlib.Omega.{arith}
use lib.ListN.{length, get_or, set, length-set}
use lib.Seq.{get_or-set_same, get_or-set_other}
use borrow.Author.Tests.{lt-ltb, le-ltb}
use Rattle.laws.specs.Table.{tab}
use Rattle.laws.specs.inner.Filled.{Filled}
use Rattle.laws.proofs.Filling.{filled_all}
use Rattle.encoding.specs.declared.Stored.{Stored}
use Rattle.symbolic_block.specs.Fields.{stored_in}
use Rattle.symbolic_numbers.specs.inner.Numbers.{flat_at}

-- the list is the old one, but for the n places from place p on, which hold v 0, v 1, ..
pub record Laid (p n : ℕ) (v : ℕ → ℕ) (old new : List ℕ) : Type 0 where
  pub size : length new ≡ length old
  pub here : (k : ℕ) → k < n → get_or new (p + k) 0 ≡ v k
  pub before : (k : ℕ) → k < p → get_or new k 0 ≡ get_or old k 0

pub laid_none : (p : ℕ) (v : ℕ → ℕ) (old : List ℕ) → Laid p 0 v old old
laid_none p v old = record { size = refl; here = λ k h. omega arith; before = λ k h. refl }

-- one number more, at place q
pub laid_more : (p n q : ℕ) (v : ℕ → ℕ) (old new : List ℕ) {x : ℕ} → q ≡ p + n → p + n < length new → Laid p n v old new → x ≡ v n → Laid p (n + 1) v old (set new q x)
laid_more p n q v old new {x} z h l e = rw z (record {
  size = length-set new (p + n) x ∙ l.size;
  here = λ k q. elim (dec_lt k n) [
    | yes m ↦ get_or-set_other new (p + n) (p + k) x 0 (λ r. omega (arith, r)) ∙ l.here k m
    | no m ↦ let z : k ≡ n = omega arith in subst (λ (j : ℕ). get_or (set new (p + n) x) (p + j) 0 ≡ v j) (sym z) (get_or-set_same new (p + n) x 0 h ∙ e)
  ];
  before = λ k q. get_or-set_other new (p + n) k x 0 (λ r. omega (arith, r)) ∙ l.before k q;
})

-- the four added fields
pub laid_4 : (old added : List ℕ) {a b : ℕ} → length old ≡ 107 → a ≡ get_or added 0 0 → b ≡ get_or added 1 0
    → Laid 103 4 (λ k. get_or added k 0) old (set (set (set (set old 103 a) 104 b) 105 (get_or added 2 0)) 106 (get_or added 3 0))
laid_4 old added e x y =
    more 3 _ (more 2 _ (more 1 _ (more 0 old (laid_none 103 _ old) x (omega arith)) y (omega arith)) refl (omega arith)) refl (omega arith)
  where
    more : (n : ℕ) (new : List ℕ) → Laid 103 n (λ k. get_or added k 0) old new → {x : ℕ} → x ≡ get_or added n 0 → n < 4 → Laid 103 (n + 1) (λ k. get_or added k 0) old (set new (103 + n) x)
    more n new l p h = laid_more 103 n (103 + n) _ old new refl (omega (arith, l.size, e, h)) l p

-- settings, endpoint numbers, weights and the added fields, one after the other
pub all_laid : (settings : List ℕ) (endpoints weights : List Stored) (added : List ℕ) {l₀ l₁ l₂ l₃ l₄ : List ℕ} {i j n : ℕ}
    → length l₀ ≡ 107 → i ≡ 21 → j ≡ 18 → n ≡ 64
    → Laid 0 i (λ k. get_or settings k 0) l₀ l₁ → Laid 21 j (stored_in endpoints) l₁ l₂ → Laid 39 n (stored_in weights) l₂ l₃ → Laid 103 4 (λ k. get_or added k 0) l₃ l₄
    → l₄ ≡ tab (flat_at settings endpoints weights added) 107
unfolding Filled
all_laid settings endpoints weights added {l₀} {l₁} {l₂} {l₃} {l₄} e x y z a b c d =
    filled_all (flat_at settings endpoints weights added) 0 l₄ 107 (d.size ∙ c.size ∙ b.size ∙ a.size ∙ e) at
  where
    at : (k : ℕ) → k < 107 → get_or l₄ k 0 ≡ flat_at settings endpoints weights added k
    at k h = elim (dec_lt k 21) [
      | yes m ↦ d.before k (omega arith) ∙ c.before k (omega arith) ∙ b.before k m ∙ ap (λ (j : ℕ). get_or l₁ j 0) (sym (zero-add k)) ∙ a.here k (omega arith) ∙ rw (lt-ltb k 21 m)
      | no m ↦ elim (dec_lt k 39) [
        | yes q ↦ d.before k (omega arith) ∙ c.before k q ∙ ap (λ (j : ℕ). get_or l₂ j 0) (let q : k ≡ 21 + (k - 21) = omega arith in q) ∙ b.here (k - 21) (omega arith) ∙ rw (le-ltb k 21 (omega arith), lt-ltb k 39 q)
        | no q ↦ elim (dec_lt k 103) [
          | yes r ↦ d.before k r ∙ ap (λ (j : ℕ). get_or l₃ j 0) (let q : k ≡ 39 + (k - 39) = omega arith in q) ∙ c.here (k - 39) (omega arith) ∙ rw (le-ltb k 21 (omega arith), le-ltb k 39 (omega arith), lt-ltb k 103 r)
          | no r ↦ ap (λ (j : ℕ). get_or l₄ j 0) (let q : k ≡ 103 + (k - 103) = omega arith in q) ∙ d.here (k - 103) (omega arith) ∙ rw (le-ltb k 21 (omega arith), le-ltb k 39 (omega arith), le-ltb k 103 (omega arith))
        ]
      ]
    ]
