-- The widths of a mode by its row of the table, and each field's by its place.
-- Assumes nothing.
use mathlib.Core.Path.{◌≡◌, refl, sym, ap, subst, ◌∙◌}
use mathlib.Core.Bool.{Bool, true, false}
use Prim.Native.Nat.{ℕ, zero, suc, ◌+◌, ◌-◌, ◌*◌, ◌≤◌, ◌<◌}
use native.Mathlib.Nat.{mul-le-mul, sub-zero}
use native.Mathlib.Omega.{arith}
use lib.Dec.{eqb, ltb}
use borrow.Author.Tests.{lt-ltb, le-ltb, eq-eqb, ne_eqb}
use Rattle.laws.specs.Choice.{pick}
use Rattle.bc7_layout.specs.declared.Mode.{Mode}
use Rattle.bc7_layout.specs.Modes.{mode_row, subsets, colour_bits, alpha_bits, endpoint_pbits, shared_pbits, index_bits, secondary_bits, p_bits}
use Rattle.bc7_layout.specs.Layout.{endpoint_width, p_bit_width, primary_width, secondary_width, field_width}

module _ (m : ℕ) (w : Mode) (e : w ≡ mode_row m) where
  pub endpoint_colour : (j : ℕ) → j < 6 * w.subsets → w.colour ≡ endpoint_width m j
  unfolding endpoint_width subsets colour_bits
  endpoint_colour j = subst (λ (v : Mode). j < 6 * v.subsets → v.colour ≡ endpoint_width m j) (sym e) (λ h. rw (lt-ltb j (6 * (mode_row m).subsets) h))

  pub endpoint_alpha : (j : ℕ) → 6 * w.subsets ≤ j → j < 8 * w.subsets → w.alpha ≡ endpoint_width m j
  unfolding endpoint_width subsets alpha_bits
  endpoint_alpha j =
      subst (λ (v : Mode). 6 * v.subsets ≤ j → j < 8 * v.subsets → v.alpha ≡ endpoint_width m j) (sym e)
      (λ h l. rw (le-ltb j (6 * (mode_row m).subsets) h, lt-ltb j (8 * (mode_row m).subsets) l))

  pub endpoint_none : (j : ℕ) → 8 * w.subsets ≤ j → 0 ≡ endpoint_width m j
  unfolding endpoint_width subsets
  endpoint_none j =
      subst (λ (v : Mode). 8 * v.subsets ≤ j → 0 ≡ endpoint_width m j) (sym e)
      (λ h. rw (le-ltb j (6 * (mode_row m).subsets) (omega arith), le-ltb j (8 * (mode_row m).subsets) h))

  pub p_one : (j : ℕ) → j < (2 * w.ends + w.shared) * w.subsets → 1 ≡ p_bit_width m j
  unfolding p_bit_width p_bits subsets endpoint_pbits shared_pbits
  p_one j = subst (λ (v : Mode). j < (2 * v.ends + v.shared) * v.subsets → 1 ≡ p_bit_width m j) (sym e) (λ h. rw (lt-ltb j (p_bits m) h))

  pub p_none : (j : ℕ) → (2 * w.ends + w.shared) * w.subsets ≤ j → 0 ≡ p_bit_width m j
  unfolding p_bit_width p_bits subsets endpoint_pbits shared_pbits
  p_none j = subst (λ (v : Mode). (2 * v.ends + v.shared) * v.subsets ≤ j → 0 ≡ p_bit_width m j) (sym e) (λ h. rw (le-ltb j (p_bits m) h))

  pub secondary_anchor : (i : ℕ) → i ≡ 0 → w.secondary - 1 ≡ secondary_width m i
  unfolding secondary_width secondary_bits
  secondary_anchor i h = subst (λ (v : Mode). v.secondary - 1 ≡ secondary_width m i) (sym e) (rw (eq-eqb i 0 h))

  pub secondary_other : (i : ℕ) → (i ≡ 0 → ⊥) → w.secondary ≡ secondary_width m i
  unfolding secondary_width secondary_bits
  secondary_other i h = subst (λ (v : Mode). v.secondary ≡ secondary_width m i) (sym e) (rw (ne_eqb i 0 h) (sym (sub-zero (mode_row m).secondary)))

pub p_bits_fit : (a b n : ℕ) → a ≤ 255 → b ≤ 255 → n ≤ 255 → (2 * a + b) * n ≤ 765 * 255
p_bits_fit a b n ha hb hn = mul-le-mul {n₂ = 765} {m₂ = 255} (omega arith) hn

module _ (m p k : ℕ) where
  -- the first four do not look at the partition
  pub width_header : k < 4 → field_width m 0 k ≡ field_width m p k
  unfolding field_width
  width_header h = rw (lt-ltb k 22 (omega arith))

  pub width_endpoint : 4 ≤ k → k < 22 → endpoint_width m (k - 4) ≡ field_width m p k
  unfolding field_width
  width_endpoint h l =
      rw (ne_eqb k 0 (λ q. omega arith), ne_eqb k 1 (λ q. omega arith), ne_eqb k 2 (λ q. omega arith), ne_eqb k 3 (λ q. omega arith), lt-ltb k 22 l)

  pub width_pbit : 22 ≤ k → k < 28 → p_bit_width m (k - 22) ≡ field_width m p k
  unfolding field_width
  width_pbit h l =
      rw (ne_eqb k 0 (λ q. omega arith), ne_eqb k 1 (λ q. omega arith), ne_eqb k 2 (λ q. omega arith), ne_eqb k 3 (λ q. omega arith), le-ltb k 22 h, lt-ltb k 28 l)

  pub width_primary : 28 ≤ k → k < 44 → primary_width m p (k - 28) ≡ field_width m p k
  unfolding field_width
  width_primary h l =
      rw (ne_eqb k 0 (λ q. omega arith), ne_eqb k 1 (λ q. omega arith), ne_eqb k 2 (λ q. omega arith), ne_eqb k 3 (λ q. omega arith), le-ltb k 22 (omega arith), le-ltb k 28 h, lt-ltb k 44 l)

  pub width_secondary : 44 ≤ k → secondary_width m (k - 44) ≡ field_width m p k
  unfolding field_width
  width_secondary h =
      rw (ne_eqb k 0 (λ q. omega arith), ne_eqb k 1 (λ q. omega arith), ne_eqb k 2 (λ q. omega arith), ne_eqb k 3 (λ q. omega arith), le-ltb k 22 (omega arith), le-ltb k 28 (omega arith), le-ltb k 44 h)

-- a number that is none of the first eight
pub past_eight : (m : ℕ) → (m ≡ 0 → ⊥) → (m ≡ 1 → ⊥) → (m ≡ 2 → ⊥) → (m ≡ 3 → ⊥) → (m ≡ 4 → ⊥) → (m ≡ 5 → ⊥) → (m ≡ 6 → ⊥) → (m ≡ 7 → ⊥) → 8 ≤ m
past_eight zero a b c d e f g h = absurd (a refl)
past_eight (suc zero) a b c d e f g h = absurd (b refl)
past_eight (suc (suc zero)) a b c d e f g h = absurd (c refl)
past_eight (suc (suc (suc zero))) a b c d e f g h = absurd (d refl)
past_eight (suc (suc (suc (suc zero)))) a b c d e f g h = absurd (e refl)
past_eight (suc (suc (suc (suc (suc zero))))) a b c d e f g h = absurd (f refl)
past_eight (suc (suc (suc (suc (suc (suc zero)))))) a b c d e f g h = absurd (g refl)
past_eight (suc (suc (suc (suc (suc (suc (suc zero))))))) a b c d e f g h = absurd (h refl)
past_eight (suc (suc (suc (suc (suc (suc (suc (suc m)))))))) a b c d e f g h = omega arith
