-- The four ways in which a word of a block lies in its halves, and the low bits of a word.
-- Assumes nothing.
use mathlib.Core.Path.{◌≡◌, sym, ap, ◌∙◌, subst}
use mathlib.Core.List.{List}
use Prim.Native.Nat.{ℕ, ◌+◌, ◌-◌, ◌*◌, ◌/◌, ◌%◌, ◌^◌, ◌≤◌, ◌<◌, min}
use native.Mathlib.Nat.{mod-eq_of_lt, mod-lt, lt_of_lt_of_le, lt_of_le_of_lt, lt_of_not-le, one-mul, mul-one, zero-mul, mul_assoc, add-mul, add_comm, add-zero, zero-add, mul-mod_left, add-mul-mod_self_right, div-one, min-eq_left, min-eq_right}
use native.Mathlib.Decide.{dec_le}
use native.Mathlib.Omega.{arith}
use lib.Arith.{digits_lt}
use lib.Pow.{pow_pos, pow_mono, pow-lt, pow-add, high, low, split, mod-pow-add, shr_le, shr_lt, shr-shr, shl-shr}
use Rattle.bits.specs.Field.{field}
use lib.ListN.{length}
use Rattle.bits.specs.Block.{block_number, number_of}
use Rattle.bits.specs.declared.PhysicalBlock.{PhysicalBlock}
use Rattle.bits.proofs.Fields.{field_lt, field_past, field_in, field_above, field_below}
use Rattle.bits.proofs.Blocks.{number_lt, spliced, block_lt}
use Rattle.laws.specs.Table.{Bytes}

pub one_shl : (w : ℕ) → w < 64 → 1 * 2 ^ w % 2 ^ 64 ≡ 2 ^ w
one_shl w h = rw one-mul (mod-eq_of_lt (pow-lt {j = 64} h))

pub low_is : (x w : ℕ) → x % 2 ^ w ≡ field x 0 w
unfolding field
low_is x w = rw (div-one x)

pub low_whole : (x w : ℕ) → x < 2 ^ 64 → 64 ≤ w → x ≡ field x 0 w
low_whole x w h l = sym (mod-eq_of_lt (lt_of_lt_of_le h (pow_mono {j = w} l))) ∙ low_is x w

-- the low bits of a word that is a field
pub low_field : (s p w : ℕ) → field (field s p 64) 0 w ≡ field s p (min w 64)
low_field s p w = elim (dec_le w 64) [ yes h ↦ narrow h | no h ↦ wide (lt_of_not-le h) ]
  where
    narrow : w ≤ 64 → field (field s p 64) 0 w ≡ field s p (min w 64)
    narrow h = rw (min-eq_left h) (field_in s p 64 0 w (omega arith) ∙ rw add-zero)

    wide : 64 < w → field (field s p 64) 0 w ≡ field s p (min w 64)
    wide h = let l : 64 ≤ w = omega arith in rw (min-eq_right l) (sym (low_whole (field s p 64) w (field_lt s p 64) l))

module _ (b : PhysicalBlock) (h : b.hi < 2 ^ 64) (l : b.lo < 2 ^ 64) where
  -- a shift by 64 - p in two steps, so that p may be 0
  pub word_across : (p : ℕ) → p < 64 → b.hi * 2 ^ (63 - p) % 2 ^ 64 * 2 ^ 1 % 2 ^ 64 + b.lo / 2 ^ p ≡ field (block_number b) p 64
  unfolding block_number
  word_across p m =
      let d : 64 - p ≡ 63 - p + 1 = omega arith in
      let e : b.hi * 2 ^ (64 - p) ≡ b.hi * 2 ^ (63 - p) * 2 = rw (d, pow-add 2 (63 - p) 1) (sym (mul_assoc b.hi (2 ^ (63 - p)) 2)) in
      let f : b.hi * 2 ^ (63 - p) % 2 ^ 64 * 2 ^ 1 % 2 ^ 64 ≡ b.hi * 2 ^ (64 - p) % 2 ^ 64 = omega (arith, e) in
      rw f (spliced b.hi b.lo l p m)

  pub word_high : (p : ℕ) → 64 ≤ p → b.hi / 2 ^ (p - 64) ≡ field (block_number b) p 64
  unfolding block_number field
  word_high p m =
      let d : p ≡ 64 + (p - 64) = omega arith in
      sym (mod-eq_of_lt (lt_of_le_of_lt (shr_le b.hi (p - 64)) h))
      ∙ sym (field_above b.hi b.lo 64 (p - 64) 64 l) ∙ ap (λ (q : ℕ). field (b.hi * 2 ^ 64 + b.lo) q 64) (sym d)

  pub word_past : (p : ℕ) → 128 ≤ p → 0 ≡ field (block_number b) p 64
  unfolding block_number
  word_past p m = sym (field_past _ p 64 (lt_of_lt_of_le (block_lt b.hi b.lo h l) (pow_mono {j = p} m)))

  pub shift_high : (p : ℕ) → 64 ≤ p → 0 * 2 ^ 64 + field (block_number b) p 64 ≡ block_number b / 2 ^ p
  unfolding block_number field
  shift_high p m =
      let d : 128 ≤ 64 + p = omega arith in
      rw (zero-mul, zero-add) (mod-eq_of_lt (shr_lt 64 p (lt_of_lt_of_le (block_lt b.hi b.lo h l) (pow_mono {j = 64 + p} d))))

  pub shift_low : (p : ℕ) → b.hi / 2 ^ p * 2 ^ 64 + field (block_number b) p 64 ≡ block_number b / 2 ^ p
  unfolding block_number field
  shift_low p =
      let n = b.hi * 2 ^ 64 + b.lo in
      let e : b.hi / 2 ^ p ≡ n / 2 ^ p / 2 ^ 64 =
      ap (λ (x : ℕ). x / 2 ^ p) (sym (high b.hi 64 l)) ∙ shr-shr n 64 p ∙ ap (λ (k : ℕ). n / 2 ^ k) (add_comm 64 p) ∙ sym (shr-shr n p 64) in
      ap (λ (x : ℕ). x * 2 ^ 64 + n / 2 ^ p % 2 ^ 64) e ∙ split (n / 2 ^ p) 64

  pub first_low : (w : ℕ) → w < 64 → 0 * 2 ^ 64 + field b.lo 0 w ≡ block_number b % 2 ^ w
  unfolding block_number
  first_low w m = rw (zero-mul, zero-add) (sym (field_below b.hi b.lo 64 0 w (omega arith)) ∙ sym (low_is _ w))

  pub first_high : (w : ℕ) → 64 ≤ w → field b.hi 0 (w - 64) * 2 ^ 64 + b.lo ≡ block_number b % 2 ^ w
  unfolding block_number
  first_high w m =
      let d : w ≡ (w - 64) + 64 = omega arith in
      let n = b.hi * 2 ^ 64 + b.lo in
      sym (ap (λ (k : ℕ). n % 2 ^ k) d ∙ mod-pow-add n (w - 64) 64 ∙ rw (high b.hi 64 l, low b.hi 64 l, low_is b.hi (w - 64)))

-- ---- a number on top of x, which lies below bit p

on_top_mod : (x v p j : ℕ) → x < 2 ^ p → x + v * 2 ^ p % 2 ^ (j + p) ≡ v % 2 ^ j * 2 ^ p + x
on_top_mod x v p j h =
    rw (mod-pow-add (v * 2 ^ p) j p, shl-shr v p, mul-mod_left v (2 ^ p), add-zero (v % 2 ^ j * 2 ^ p)) (add_comm x (v % 2 ^ j * 2 ^ p))

pub on_top_cut : (x v p k : ℕ) → x < 2 ^ p → p ≤ k → x + v * 2 ^ p % 2 ^ k ≡ (x + v * 2 ^ p) % 2 ^ k
on_top_cut x v p k h l =
    let d : k ≡ (k - p) + p = omega arith in
    ap (λ (n : ℕ). x + v * 2 ^ p % 2 ^ n) d ∙ on_top_mod x v p (k - p) h
    ∙ sym (rw (add_comm x (v * 2 ^ p)) (ap (λ (n : ℕ). (v * 2 ^ p + x) % 2 ^ n) d ∙ mod-pow-add (v * 2 ^ p + x) (k - p) p ∙ rw (high v p h, low v p h)))

pub on_top_lt : (x v p k : ℕ) → x < 2 ^ p → p ≤ k → x + v * 2 ^ p % 2 ^ k < 2 ^ k
on_top_lt x v p k h l = rw (on_top_cut x v p k h l) (mod-lt (x + v * 2 ^ p) (pow_pos k))

module _ (a : PhysicalBlock) (h : a.hi < 2 ^ 64) (l : a.lo < 2 ^ 64) (p v : ℕ) (m : block_number a < 2 ^ p) where
  pub top_past : 128 ≤ p → block_number a ≡ (block_number a + v * 2 ^ p) % 2 ^ 128
  unfolding block_number
  top_past n =
      let d : p ≡ (p - 128) + 128 = omega arith in
      let e : v * 2 ^ p ≡ v * 2 ^ (p - 128) * 2 ^ 128 = ap (λ (k : ℕ). v * 2 ^ k) d ∙ rw (pow-add 2 (p - 128) 128) (sym (mul_assoc v (2 ^ (p - 128)) (2 ^ 128))) in
      sym (rw (e, add-mul-mod_self_right (a.hi * 2 ^ 64 + a.lo) (v * 2 ^ (p - 128)) (2 ^ 128)) (mod-eq_of_lt (block_lt a.hi a.lo h l)))

  pub top_first : p ≡ 0 → v < 2 ^ 64 → 0 * 2 ^ 64 + v ≡ (block_number a + v * 2 ^ p) % 2 ^ 128
  top_first e n =
      let z : block_number a ≡ 0 = (let q : block_number a < 2 ^ 0 = rw e at m in omega arith) in
      rw (z, e, zero-mul, zero-add, zero-add, mul-one v) (sym (mod-eq_of_lt (lt_of_lt_of_le n (pow_mono {i = 64} {j = 128} (omega arith)))))

  low_only : p < 64 → (a.hi ≡ 0) × (a.lo < 2 ^ p)
  unfolding block_number
  low_only n =
      let q : 2 ^ p ≤ 2 ^ 64 = pow_mono {i = p} {j = 64} (omega arith) in
      let z : a.hi ≡ 0 = omega arith in
      (z, omega arith)

  pub top_low : p < 64 → 0 < p → v < 2 ^ 64 → v / 2 ^ (64 - p) * 2 ^ 64 + (a.lo + v * 2 ^ p % 2 ^ 64) ≡ (block_number a + v * 2 ^ p) % 2 ^ 128
  unfolding block_number
  top_low n q w =
      let z = (low_only n).0 in
      let s = (low_only n).1 in
      let x = a.lo + v * 2 ^ p in
      let d : 64 ≡ p + (64 - p) = omega arith in
      let e : v / 2 ^ (64 - p) ≡ x / 2 ^ 64 =
      sym (ap (λ (k : ℕ). x / 2 ^ k) d ∙ sym (shr-shr x p (64 - p)) ∙ ap (λ (y : ℕ). y / 2 ^ (64 - p)) (rw (add_comm a.lo (v * 2 ^ p)) (high v p s))) in
      let t : x < 2 ^ 128 = lt_of_lt_of_le (rw (add_comm a.lo (v * 2 ^ p), pow-add 2 64 p) (digits_lt w s)) (pow_mono {i = 64 + p} {j = 128} (omega arith)) in
      rw (on_top_cut a.lo v p 64 s (omega arith), e) (split x 64 ∙ sym (rw (z, zero-mul, zero-add) (mod-eq_of_lt t)))

  pub low_fits : p < 64 → a.lo + v * 2 ^ p % 2 ^ 64 < 2 ^ 64
  low_fits n = on_top_lt a.lo v p 64 (low_only n).1 (omega arith)

  high_small : 64 ≤ p → a.hi < 2 ^ (p - 64)
  unfolding block_number
  high_small n =
      let d : p - 64 + 64 ≡ p = omega arith in
      rw (← high a.hi 64 l) (shr_lt (p - 64) 64 (rw d m))

  pub high_fits : 64 ≤ p → p < 128 → a.hi + v * 2 ^ (p - 64) % 2 ^ 64 < 2 ^ 64
  high_fits n q = on_top_lt a.hi v (p - 64) 64 (high_small n) (omega arith)

  pub top_high : 64 ≤ p → p < 128 → (a.hi + v * 2 ^ (p - 64) % 2 ^ 64) * 2 ^ 64 + a.lo ≡ (block_number a + v * 2 ^ p) % 2 ^ 128
  unfolding block_number
  top_high n q =
      let d : p ≡ (p - 64) + 64 = omega arith in
      let y = a.hi + v * 2 ^ (p - 64) in
      let e : v * 2 ^ p ≡ v * 2 ^ (p - 64) * 2 ^ 64 = ap (λ (k : ℕ). v * 2 ^ k) d ∙ rw (pow-add 2 (p - 64) 64) (sym (mul_assoc v (2 ^ (p - 64)) (2 ^ 64))) in
      let f : a.hi * 2 ^ 64 + a.lo + v * 2 ^ p ≡ y * 2 ^ 64 + a.lo = omega (arith, add-mul a.hi (v * 2 ^ (p - 64)) (2 ^ 64)) in
      rw (on_top_cut a.hi v (p - 64) 64 (high_small n) (omega arith), f)
      (sym (mod-pow-add (y * 2 ^ 64 + a.lo) 64 64 ∙ rw (high y 64 l, low y 64 l)))

-- sixteen bytes are one number of 128 bits
pub loaded : (s : List ℕ) → Bytes s → length s ≡ 16 → field (number_of s) 0 128 ≡ number_of s
loaded s b e =
    let h : number_of s < 2 ^ 128 = subst (λ (n : ℕ). number_of s < 2 ^ (8 * n)) e (number_lt s b) in
    sym (low_is (number_of s) 128) ∙ mod-eq_of_lt h
