-- What the table of ranges says of every range, and that the chosen endpoint range is the largest that fits.
-- Assumes nothing.
use mathlib.Core.Path.{◌≡◌, refl, sym, ap, ◌∙◌, subst}
use mathlib.Core.Bool.{Bool, true, false}
use mathlib.Core.List.{List}
use Prim.Native.Nat.{ℕ, zero, suc, ◌+◌, ◌-◌, ◌*◌, ◌/◌, ◌%◌, ◌^◌, ◌≤◌, ◌<◌, min}
use native.Mathlib.Nat.{not-suc-le-zero}
use native.Mathlib.Decide.{dec_lt}
use native.Mathlib.Omega.{arith}
use lib.Dec.{T, leb, eqb, leb→le}
use lib.ListN.{get_or, get_or-eq_default}
use lib.Pow.{pow_pos}
use borrow.Author.Tests.{le-leb, lt-leb, leb-true, leb-false, eqb-true, eqb-false}
use Rattle.laws.specs.Choice.{pick, all}
use Rattle.laws.specs.Table.{tab}
use Rattle.laws.proofs.Computed.{each}
use Rattle.laws.proofs.Filling.{get_or_tab}
use Rattle.encoding.specs.declared.Encoding.{Encoding}
use Rattle.encoding.specs.declared.Encoding.TheVariants.{Bits, Trits, Quints}
use Rattle.encoding.specs.Encoding.{radix, code_bits, sequence_bits}
use Rattle.quantization.specs.Ranges.{encodings, bit_counts, encoding_at, bits_at, most_at, ReachPrinted, range_bits, largest_to, endpoint_range, LargestChosen}
use Rattle.quantization.specs.inner.CodeBits.{codes_of}

-- two functions whose tables of n values are the same, which antt computes, agree below n
pub same_below : {A : Type 0} (f g : ℕ → A) (n : ℕ) (d : A) → tab f n ≡ tab g n → (k : ℕ) → k < n → f k ≡ g k
same_below {A} f g n d e k h = sym (get_or_tab f n k d h) ∙ ap (λ (l : List A). get_or l k d) e ∙ get_or_tab g n k d h

-- the ranges reach what 01 prints
pub printed : ReachPrinted
unfolding tab most_at encoding_at bits_at
printed = refl

-- ---- past the table

pub encoding_past : (k : ℕ) → 20 < k → encoding_at k ≡ Bits
unfolding encoding_at
encoding_past k h = get_or-eq_default encodings Bits {n = k} h

pub bits_past : (k : ℕ) → 20 < k → bits_at k ≡ 0
unfolding bits_at
bits_past k h = get_or-eq_default bit_counts 0 {n = k} h

-- no range past the table differs from the first
pub encoding_capped : (k : ℕ) → encoding_at (min k 21) ≡ encoding_at k
encoding_capped k =
    elim (dec_lt k 21) [
      | yes p ↦ let e : min k 21 ≡ k = omega arith in rw e
      | no p ↦ encoding_past (min k 21) (omega arith) ∙ sym (encoding_past k (omega arith))
    ]

pub bits_capped : (k : ℕ) → bits_at (min k 21) ≡ bits_at k
bits_capped k =
    elim (dec_lt k 21) [
      | yes p ↦ let e : min k 21 ≡ k = omega arith in rw e
      | no p ↦ bits_past (min k 21) (omega arith) ∙ sym (bits_past k (omega arith))
    ]

-- ---- bounds, for every k

-- one that holds below 21, which antt computes, and past the table
bounded : (f : ℕ → ℕ) (m : ℕ) → T (all (λ k. leb (f k) m) 21) → ((k : ℕ) → 20 < k → f k ≤ m) → (k : ℕ) → f k ≤ m
bounded f m t past k = elim (dec_lt k 21) [ yes p ↦ leb→le (f k) m (each (λ k. leb (f k) m) 21 t k p) | no p ↦ past k (omega arith) ]

bits_test : T (all (λ k. leb (bits_at k) 8) 21)
unfolding bits_at
bits_test = tt

pub bits_le : (k : ℕ) → bits_at k ≤ 8
bits_le = bounded bits_at 8 bits_test (λ k h. omega (arith, bits_past k h))

-- how many numbers the range has
abbrev pub reach : ℕ → ℕ
reach k = radix (encoding_at k) * 2 ^ bits_at k

reach_test : T (all (λ k. leb (reach k) 256) 21)
unfolding encoding_at bits_at
reach_test = tt

pub reach_le : (k : ℕ) → reach k ≤ 256
reach_le = bounded reach 256 reach_test (λ k h. rw (encoding_past k h, bits_past k h) (omega arith))

pub reach_pos : (k : ℕ) → 1 ≤ reach k
reach_pos k = pos (encoding_at k) where
  pos : (e : Encoding) → 1 ≤ radix e * 2 ^ bits_at k
  pos Bits = omega (arith, pow_pos (bits_at k))
  pos Trits = omega (arith, pow_pos (bits_at k))
  pos Quints = omega (arith, pow_pos (bits_at k))

-- the numbers of the range are those below its reach
pub most_le : (k : ℕ) → most_at k ≤ 255
unfolding most_at
most_le k = omega (arith, reach_le k)

pub most_lt : (k x : ℕ) → x ≤ most_at k → x < reach k
unfolding most_at
most_lt k x h = omega (arith, reach_pos k)

pub lt_most : (k x : ℕ) → x < reach k → x ≤ most_at k
unfolding most_at
lt_most k x h = omega arith

weight_test : T (all (λ k. leb (most_at k) 31) 12)
unfolding most_at encoding_at bits_at
weight_test = tt

pub weight_most_le : (k : ℕ) → k ≤ 11 → most_at k ≤ 31
weight_most_le k h = leb→le (most_at k) 31 (each (λ k. leb (most_at k) 31) 12 weight_test k (omega arith))

-- ---- the endpoint range

-- the place of an encoding's code bits in `codes_of`
abbrev digit_of : Encoding → ℕ
digit_of Bits = 0
digit_of Trits = 1
digit_of Quints = 2

digit_lt : (e : Encoding) → digit_of e < 3
digit_lt Bits = omega arith
digit_lt Trits = omega arith
digit_lt Quints = omega arith

code_at : (n : ℕ) (e : Encoding) → get_or (codes_of n) (digit_of e) 0 ≡ code_bits e n
code_at n Bits = refl
code_at n Trits = refl
code_at n Quints = refl

pub code_most : (n k : ℕ) → get_or (codes_of n) k 0 ≤ 3 * n + 2
code_most n zero = omega arith
code_most n (suc zero) = omega arith
code_most n (suc (suc zero)) = omega arith
code_most n (suc (suc (suc k))) = omega arith

-- packed bits and encodings that are those of the ranges 5 to 20, which antt computes, give the total of range 4 + i
module _ (w v : ℕ) (bits : tab (λ j. w / 2 ^ (4 * j) % 16) 16 ≡ tab (λ j. bits_at (5 + j)) 16)
    (digits : tab (λ j. v / 2 ^ (2 * j + 10) % 4) 16 ≡ tab (λ j. digit_of (encoding_at (5 + j))) 16) (i : ℕ) (least : 1 ≤ i) (most : i ≤ 16) where
  at_range : 5 + (i - 1) ≡ 4 + i
  at_range = omega arith

  bits_is : w / 2 ^ (4 * (i - 1)) % 16 ≡ bits_at (4 + i)
  bits_is = same_below (λ j. w / 2 ^ (4 * j) % 16) (λ j. bits_at (5 + j)) 16 0 bits (i - 1) (omega arith) ∙ ap bits_at at_range

  digit_is : v / 2 ^ (2 * (i - 1) + 10) % 4 ≡ digit_of (encoding_at (4 + i))
  digit_is =
      same_below (λ j. v / 2 ^ (2 * j + 10) % 4) (λ j. digit_of (encoding_at (5 + j))) 16 0 digits (i - 1) (omega arith)
      ∙ ap (λ (k : ℕ). digit_of (encoding_at k)) at_range

  pub packed_lt : v / 2 ^ (2 * (i - 1) + 10) % 4 < 3
  packed_lt = rw digit_is (digit_lt (encoding_at (4 + i)))

  pub packed_le : w / 2 ^ (4 * (i - 1)) % 16 ≤ 8
  packed_le = rw bits_is (bits_le (4 + i))

  pub packed_total : (n : ℕ) → n * (w / 2 ^ (4 * (i - 1)) % 16) + get_or (codes_of n) (v / 2 ^ (2 * (i - 1) + 10) % 4) 0 ≡ range_bits (4 + i) n
  unfolding range_bits sequence_bits
  packed_total n = rw (bits_is, digit_is) (ap (λ (k : ℕ). n * bits_at (4 + i) + k) (code_at n (encoding_at (4 + i))))

-- a range that fits, and one that does not, at the top of the ranges 4 to 4 + i
pub here : (n left i : ℕ) → 1 ≤ i → range_bits (4 + i) n ≤ left → largest_to n left i ≡ 4 + i
unfolding largest_to
here n left zero p h = absurd (not-suc-le-zero p)
here n left (suc i) p h = rw (le-leb _ _ h)

pub down : (n left i : ℕ) → 1 ≤ i → left < range_bits (4 + i) n → largest_to n left i ≡ largest_to n left (i - 1)
unfolding largest_to
down n left zero p h = absurd (not-suc-le-zero p)
down n left (suc i) p h = let e : suc i - 1 ≡ i = omega arith in rw (lt-leb _ _ h, e)

largest_to_lem : (n left top : ℕ) → range_bits 4 n ≤ left
    → (range_bits (largest_to n left top) n ≤ left) × ((k : ℕ) → largest_to n left top < k → k ≤ 4 + top → left < range_bits k n)
unfolding largest_to
largest_to_lem n left zero h = (h, λ k p q. omega arith)
largest_to_lem n left (suc top) h = go (leb (range_bits (4 + suc top) n) left) refl (largest_to_lem n left top h) where
  go : (t : Bool) → leb (range_bits (4 + suc top) n) left ≡ t
      → (range_bits (largest_to n left top) n ≤ left) × ((k : ℕ) → largest_to n left top < k → k ≤ 4 + top → left < range_bits k n)
      → (range_bits (pick t (4 + suc top) (largest_to n left top)) n ≤ left)
      × ((k : ℕ) → pick t (4 + suc top) (largest_to n left top) < k → k ≤ 4 + suc top → left < range_bits k n)
  go true e r = (leb-true _ _ e, λ k p q. omega arith)
  go false e r = (r.0, λ k p q. top_or k p q (eqb k (4 + suc top)) refl) where
    top_or : (k : ℕ) → largest_to n left top < k → k ≤ 4 + suc top → (t : Bool) → eqb k (4 + suc top) ≡ t → left < range_bits k n
    top_or k p q true f = subst (λ (j : ℕ). left < range_bits j n) (sym (eqb-true k (4 + suc top) f)) (leb-false _ _ e)
    top_or k p q false f = r.1 k p (omega (arith, eqb-false k (4 + suc top) f))

largest_within : (n left top : ℕ) → (4 ≤ largest_to n left top) × (largest_to n left top ≤ 4 + top)
unfolding largest_to
largest_within n left zero = (omega arith, omega arith)
largest_within n left (suc top) = go (leb (range_bits (4 + suc top) n) left) (largest_within n left top) where
  go : (t : Bool) → (4 ≤ largest_to n left top) × (largest_to n left top ≤ 4 + top)
      → (4 ≤ pick t (4 + suc top) (largest_to n left top)) × (pick t (4 + suc top) (largest_to n left top) ≤ 4 + suc top)
  go true r = (omega arith, omega arith)
  go false r = (r.0, omega (arith, r.1))

-- always one of the seventeen
pub endpoint_range_within : (n left : ℕ) → (4 ≤ endpoint_range n left) × (endpoint_range n left ≤ 20)
unfolding endpoint_range
endpoint_range_within n left = largest_within n left 16

-- 01: fault 19 holds where the bits left are below ceil(13 n / 5), which n numbers of the smallest endpoint range take
pub smallest_bits : (n : ℕ) → range_bits 4 n ≡ (13 * n + 4) / 5
unfolding range_bits encoding_at bits_at sequence_bits
smallest_bits n = omega arith

pub endpoint_range_largest : LargestChosen
unfolding endpoint_range
endpoint_range_largest n left h =
    let r = largest_to_lem n left 16 (omega (arith, smallest_bits n)) in
    record { within = largest_within n left 16; fits = r.0; above = r.1 }
