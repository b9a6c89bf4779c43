-- The laws of fields and of streams.
-- Assumes nothing.
use mathlib.Core.Path.{◌≡◌, refl, sym, ap, ap₂, ◌∙◌}
use mathlib.Core.Logic.{⊎_elim}
use Prim.Native.Nat.{ℕ, zero, suc, ◌+◌, ◌-◌, ◌*◌, ◌/◌, ◌%◌, ◌^◌, ◌≤◌, ◌<◌}
use native.Mathlib.Nat.{le_of_suc-le-suc, not-suc-le-zero, suc_inj, eq-or-lt_of_le, lt_of_lt_of_le, mod-lt, mod-eq_of_lt, zero-mod, div-eq_of_lt, mul-add-div_right, mul-add-mod_self_right, mul_assoc, mod-one, le_refl}
use native.Mathlib.Omega.{arith}
use lib.Arith.{digits_lt}
use lib.Pow.{pow_pos, pow-add, pow_mono, high, low, mod-pow-add, mod-mod-pow, shr-shr}
use lib.Pow
use Rattle.bits.specs.Field.{field, stream}

pub field_lt : (s p w : ℕ) → field s p w < 2 ^ w
unfolding field
field_lt s p w = mod-lt (s / 2 ^ p) (pow_pos w)

-- a number below 2 ^ p has no bits from p on
pub field_past : (s p w : ℕ) → s < 2 ^ p → field s p w ≡ 0
unfolding field
field_past s p w h = rw (div-eq_of_lt h, zero-mod)

-- what stands above a field does not change it
pub field_under : (a s d e p : ℕ) → field (a * 2 ^ (d + (e + p)) + s) p e ≡ field s p e
unfolding field
field_under a s d e p =
    let q : a * 2 ^ (d + (e + p)) ≡ a * 2 ^ d * 2 ^ e * 2 ^ p = rw (pow-add, pow-add) (simp mul_assoc) in
    rw (q, mul-add-div_right (pow_pos p), mul-add-mod_self_right)

-- fields of hi above lo, which lies below bit k
pub field_above : (hi lo k q w : ℕ) → lo < 2 ^ k → field (hi * 2 ^ k + lo) (k + q) w ≡ field hi q w
unfolding field
field_above hi lo k q w h = rw (← shr-shr, high hi k h)

pub field_below : (hi lo k p w : ℕ) → p + w ≤ k → field (hi * 2 ^ k + lo) p w ≡ field lo p w
field_below hi lo k p w h =
    let d : k ≡ (k - (p + w)) + (w + p) = omega arith in
    ap (λ (n : ℕ). field (hi * 2 ^ n + lo) p w) d ∙ field_under hi lo (k - (p + w)) w p

-- the low and the high part of a field
pub field_low : (s p j k : ℕ) → field s p (j + k) % 2 ^ k ≡ field s p k
unfolding field
field_low s p j k = mod-mod-pow (s / 2 ^ p) j k

pub field_high : (s p j k : ℕ) → field s p (j + k) / 2 ^ k ≡ field s (p + k) j
unfolding field
field_high s p j k = Pow.field (s / 2 ^ p) j k ∙ ap (λ (x : ℕ). x % 2 ^ j) (shr-shr s p k)

-- a field is its high part above its low part
pub field_cut : (s p j k : ℕ) → field s p (j + k) ≡ field s (p + k) j * 2 ^ k + field s p k
unfolding field
field_cut s p j k = mod-pow-add (s / 2 ^ p) j k ∙ ap (λ (x : ℕ). x % 2 ^ j * 2 ^ k + s / 2 ^ p % 2 ^ k) (shr-shr s p k)

-- a byte below a field
pub byte_below : (s p q w v : ℕ) {x b : ℕ} → q ≡ p + 8 → v ≡ w + 8 → x ≡ field s q w → b ≡ field s p 8 → x * 256 + b ≡ field s p v
byte_below s p q w v e f g h = rw (g, h, e, f) (sym (field_cut s p w 8))

-- a field of no bits
pub field_none : (s p : ℕ) → field s p 0 ≡ 0
unfolding field
field_none s p = mod-one (s / 2 ^ p)

-- a field of a field
pub field_in : (s from n p w : ℕ) → p + w ≤ n → field (field s from n) p w ≡ field s (from + p) w
unfolding field
field_in s from n p w h =
    let d : n ≡ (n - (p + w)) + w + p = omega arith in
    ap (λ (x : ℕ). s / 2 ^ from % 2 ^ x / 2 ^ p % 2 ^ w) d
    ∙ ap (λ (x : ℕ). x % 2 ^ w) (Pow.field (s / 2 ^ from) ((n - (p + w)) + w) p)
    ∙ mod-mod-pow (s / 2 ^ from / 2 ^ p) (n - (p + w)) w
    ∙ ap (λ (x : ℕ). x % 2 ^ w) (shr-shr s from p)

pub stream_ext : (pos v u : ℕ → ℕ) (n : ℕ) → ((i : ℕ) → i < n → v i ≡ u i) → stream pos v n ≡ stream pos u n
unfolding stream
stream_ext pos v u zero h = refl
stream_ext pos v u (suc n) h = ap₂ (λ (x y : ℕ). x * 2 ^ pos n + y) (h n (omega arith)) (stream_ext pos v u n (λ i l. h i (omega arith)))

module _ (pos e : ℕ → ℕ) (next : (i : ℕ) → pos (suc i) ≡ e i + pos i) where
  pub pos_mono : (n i : ℕ) → i ≤ n → pos i ≤ pos n
  pos_mono zero i h = let q : i ≡ 0 = omega arith in rw q (le_refl (pos 0))
  pos_mono (suc n) i h =
      ⊎_elim (λ q. rw q (le_refl (pos (suc n)))) (λ l. let m : pos i ≤ pos n = pos_mono n i (le_of_suc-le-suc l) in omega (arith, next n)) (eq-or-lt_of_le h)

  -- a number is the stream of its fields
  pub restream : pos 0 ≡ 0 → (c n : ℕ) → stream pos (λ k. field c (pos k) (e k)) n ≡ c % 2 ^ pos n
  unfolding stream field
  restream z c zero = rw (z, mod-one)
  restream z c (suc n) = rw (next n, mod-pow-add, restream z c n)

  module _ (v : ℕ → ℕ) (small : (i : ℕ) → v i < 2 ^ e i) where
    pub stream_lt : (n : ℕ) → stream pos v n < 2 ^ pos n
    unfolding stream
    stream_lt zero = pow_pos (pos 0)
    stream_lt (suc n) = rw (next n, pow-add) (digits_lt (small n) (stream_lt n))

    pub stream_at : (n i : ℕ) → i < n → field (stream pos v n) (pos i) (e i) ≡ v i
    unfolding stream field
    stream_at zero i h = absurd (not-suc-le-zero h)
    stream_at (suc n) i h =
        ⊎_elim (λ q. let r : i ≡ n = suc_inj q in rw (r, high (v n) (pos n) (stream_lt n)) (mod-eq_of_lt (small n)))
        (λ l. let m : pos (suc i) ≤ pos n = pos_mono n (suc i) (le_of_suc-le-suc l) in
        let d : pos n ≡ (pos n - pos (suc i)) + (e i + pos i) = omega (arith, next i) in
        ap (λ (x : ℕ). field (v n * 2 ^ x + stream pos v n) (pos i) (e i)) d ∙ field_under (v n) (stream pos v n) (pos n - pos (suc i)) (e i) (pos i) ∙ stream_at n i (le_of_suc-le-suc l))
        (eq-or-lt_of_le h)

    pub stream_past : (n p w : ℕ) → pos n ≤ p → field (stream pos v n) p w ≡ 0
    stream_past n p w h = field_past (stream pos v n) p w (lt_of_lt_of_le (stream_lt n) (pow_mono h))
