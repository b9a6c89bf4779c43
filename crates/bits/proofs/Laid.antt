-- THE LAYOUT LAW: what was laid at a place is read there.
-- Assumes nothing.
use mathlib.Core.Path.{◌≡◌, subst, sym, ap, ap₂, ◌∙◌}
use mathlib.Core.List.{List, [], ◌∷◌}
use Prim.Native.Nat.{ℕ, zero, suc, ◌+◌, ◌-◌, ◌*◌, ◌^◌, ◌≤◌, ◌<◌}
use native.Mathlib.Nat.{mod-eq_of_lt, mul_assoc, add-mul, zero-mul, lt_of_lt_of_le, not-suc-le-zero, le_of_suc-le-suc}
use native.Mathlib.Omega.{arith}
use lib.Arith.{digits_lt}
use lib.ListN.{length, get_or}
use lib.Pow.{pow_pos, pow-add, pow_mono, high}
use Rattle.bits.specs.Field.{field}
use Rattle.bits.specs.Cells.{Cell, cell, laid}
use Rattle.bits.proofs.Fields.{field_under}

-- the cells stand in order from bit `from` on and end by bit `to`, and each value fits its width
abbrev pub Apart : ℕ → ℕ → List Cell → Type 0
Apart from to [] = from ≤ to
Apart from to (c ∷ cs) = (from ≤ c.place) × (c.value < 2 ^ c.width) × Apart (c.place + c.width) to cs

-- a cell, and those above it
infixr 4 ◌below◌
abbrev pub ◌below◌ : {A B C : Type 0} → A × B → C → A × B × C
c below cs = (c.0, c.1, cs)

-- cells from bit p on are a multiple of 2 ^ p
multiple : (from to : ℕ) (cs : List Cell) → Apart from to cs → (p : ℕ) → p ≤ from → (k : ℕ) × (laid cs ≡ k * 2 ^ p)
unfolding laid
multiple from to [] h p l = (0, sym (zero-mul (2 ^ p)))
multiple from to (c ∷ cs) h p l =
    let r : (k : ℕ) × (laid cs ≡ k * 2 ^ p) = multiple (c.place + c.width) to cs h.2 p (omega (arith, h.0)) in
    let d : c.place ≡ (c.place - p) + p = omega (arith, h.0) in
    let e : c.value * 2 ^ c.place ≡ c.value * 2 ^ (c.place - p) * 2 ^ p =
    ap (λ (x : ℕ). c.value * 2 ^ x) d ∙ rw (pow-add 2 (c.place - p) p) (sym (mul_assoc c.value (2 ^ (c.place - p)) (2 ^ p))) in
    (c.value * 2 ^ (c.place - p) + r.0, ap₂ ◌+◌ e r.1 ∙ sym (add-mul (c.value * 2 ^ (c.place - p)) r.0 (2 ^ p)))

-- a cell above lo, which lies below bit `from`
pub cell_above : (c : Cell) (from lo : ℕ) → from ≤ c.place → c.value < 2 ^ c.width → lo < 2 ^ from → c.value * 2 ^ c.place + lo < 2 ^ (c.place + c.width)
cell_above c from lo h v l =
    let q : 2 ^ (c.place + c.width) ≡ 2 ^ c.width * 2 ^ c.place = ap (λ (x : ℕ). 2 ^ x) (omega arith) ∙ pow-add 2 c.width c.place in
    rw q (digits_lt v (lt_of_lt_of_le l (pow_mono h)))

-- with anything below bit `from`
above : (from to : ℕ) (cs : List Cell) → Apart from to cs → (lo : ℕ) → lo < 2 ^ from → (i : ℕ) → i < length cs
    → field (laid cs + lo) (get_or cs i (cell 0 0 0)).place (get_or cs i (cell 0 0 0)).width ≡ (get_or cs i (cell 0 0 0)).value
unfolding laid field
above from to [] h lo l i m = absurd (not-suc-le-zero m)
above from to (c ∷ cs) h lo l zero m =
    let r : (k : ℕ) × (laid cs ≡ k * 2 ^ (0 + (c.width + c.place))) =
    multiple (c.place + c.width) to cs h.2 (0 + (c.width + c.place)) (omega arith) in
    let e : c.value * 2 ^ c.place + laid cs + lo ≡ r.0 * 2 ^ (0 + (c.width + c.place)) + (c.value * 2 ^ c.place + lo) = omega (arith, r.1) in
    let lo< : lo < 2 ^ c.place = lt_of_lt_of_le l (pow_mono h.0) in
    ap (λ (x : ℕ). field x c.place c.width) e ∙ field_under r.0 (c.value * 2 ^ c.place + lo) 0 c.width c.place
    ∙ rw (high c.value c.place lo<) (mod-eq_of_lt h.1)
above from to (c ∷ cs) h lo l (suc i) m =
    let e : c.value * 2 ^ c.place + laid cs + lo ≡ laid cs + (c.value * 2 ^ c.place + lo) = omega arith in
    rw e (above (c.place + c.width) to cs h.2 (c.value * 2 ^ c.place + lo) (cell_above c from lo h.0 h.1 l) i (le_of_suc-le-suc m))

under : (from to : ℕ) (cs : List Cell) → Apart from to cs → (lo : ℕ) → lo < 2 ^ from → laid cs + lo < 2 ^ to
unfolding laid
under from to [] h lo l = lt_of_lt_of_le (subst (λ (x : ℕ). x < 2 ^ from) (omega arith) l) (pow_mono h)
under from to (c ∷ cs) h lo l =
    let e : c.value * 2 ^ c.place + laid cs + lo ≡ laid cs + (c.value * 2 ^ c.place + lo) = omega arith in
    rw e (under (c.place + c.width) to cs h.2 (c.value * 2 ^ c.place + lo) (cell_above c from lo h.0 h.1 l))

module _ (to : ℕ) (cs : List Cell) (h : Apart 0 to cs) where
  pub laid_at : (i : ℕ) → i < length cs
      → field (laid cs) (get_or cs i (cell 0 0 0)).place (get_or cs i (cell 0 0 0)).width ≡ (get_or cs i (cell 0 0 0)).value
  laid_at i m = ap (λ (x : ℕ). field x (get_or cs i (cell 0 0 0)).place (get_or cs i (cell 0 0 0)).width) (omega arith) ∙ above 0 to cs h 0 (pow_pos 0) i m

  pub laid_lt : laid cs < 2 ^ to
  laid_lt = subst (λ (x : ℕ). x < 2 ^ to) (omega arith) (under 0 to cs h 0 (pow_pos 0))
