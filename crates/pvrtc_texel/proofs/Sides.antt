-- Sides of images: which have bits of a column or row, and the refusals by the tests of their order.
-- Assumes nothing.
use mathlib.Core.Path.{◌≡◌, refl}
use mathlib.Core.Bool.{Bool, true, false, not}
use Prim.Native.Nat.{ℕ, zero, suc, ◌+◌, ◌-◌, ◌*◌, ◌%◌, ◌^◌, ◌≤◌, ◌<◌}
use native.Mathlib.Nat.{mod-eq_of_lt, mul-le-mul}
use native.Mathlib.Omega.{arith}
use lib.Dec.{T, eqb}
use lib.Pow.{pow_mono}
use borrow.Author.Tests.{eqb-true, eq-eqb, ne_eqb, ltb-false}
use Rattle.laws.specs.Choice.{pick, all}
use Rattle.laws.proofs.Computed.{each}
use Rattle.pvrtc_texel.specs.Image.{bits_from, side_bits, bad_pvrtc_side, SidesTaken, words_in, image_refusal}

pub shift_exact : (k : ℕ) → k < 11 → 4 * 2 ^ k % 2 ^ 32 ≡ 4 * 2 ^ k
shift_exact k h = let l : 2 ^ k ≤ 2 ^ 10 = pow_mono {j = 10} (omega arith) in mod-eq_of_lt (omega arith)

-- one step of the search
pub search_more : (side k : ℕ) → k < 11 → (side ≡ 4 * 2 ^ k → ⊥) → bits_from side k (11 - k) ≡ bits_from side (k + 1) (11 - (k + 1))
unfolding bits_from
search_more side k h d =
    let e : 11 - k ≡ suc (11 - (k + 1)) = omega arith in
    let f : k + 1 ≡ suc k = omega arith in
    rw (e, ne_eqb side (4 * 2 ^ k) d, ← f)

pub search_here : (side k : ℕ) → k < 11 → side ≡ 4 * 2 ^ k → k ≡ bits_from side k (11 - k)
unfolding bits_from
search_here side k h d =
    let e : 11 - k ≡ suc (11 - (k + 1)) = omega arith in
    rw (e, eq-eqb side (4 * 2 ^ k) d)

found : (side k n : ℕ) → bits_from side k n < k + n → side ≡ 4 * 2 ^ bits_from side k n
unfolding bits_from
found side k zero h = absurd (omega (arith, h))
found side k (suc n) h = go (eqb side (4 * 2 ^ k)) refl (found side (suc k) n) h where
  go : (t : Bool) → eqb side (4 * 2 ^ k) ≡ t → (bits_from side (suc k) n < suc k + n → side ≡ 4 * 2 ^ bits_from side (suc k) n)
      → pick t k (bits_from side (suc k) n) < k + suc n → side ≡ 4 * 2 ^ pick t k (bits_from side (suc k) n)
  go true e below l = eqb-true side (4 * 2 ^ k) e
  go false e below l = below (omega arith)

module _ (side : ℕ) (h : bad_pvrtc_side side ≡ false) where
  pub bits_most : side_bits side ≤ 10
  unfolding bad_pvrtc_side
  bits_most = ltb-false 10 (side_bits side) h

  -- a side that is not refused is a power of two from 4 on
  pub side_is : side ≡ 4 * 2 ^ side_bits side
  unfolding side_bits
  side_is = found side 0 11 (omega (arith, bits_most))

  pub side_most : side ≤ 4096
  side_most = rw side_is (omega (arith, pow_mono {j = 10} bits_most))

-- each of the eleven has bits
eleven : T (all (λ k. not (bad_pvrtc_side (4 * 2 ^ k))) 11)
unfolding bad_pvrtc_side
eleven = tt

not_bad : (t : Bool) → T (not t) → t ≡ false
not_bad true h = absurd h
not_bad false h = refl

pub sides_taken : SidesTaken
sides_taken = record {
  taken = λ k h. not_bad (bad_pvrtc_side (4 * 2 ^ k)) (each (λ n. not (bad_pvrtc_side (4 * 2 ^ n))) 11 eleven k (omega arith));
  only = λ side h. (bits_most side h, side_is side h);
}

-- what a product of two sides reaches
pub product_most : (most : ℕ) {a b : ℕ} → a ≤ most → b ≤ most → a * b ≤ most * most
product_most most h l = mul-le-mul h l

-- ---- refusals

module _ (w h bytes places : ℕ) where
  pub refused_width : bad_pvrtc_side w ≡ true → 61 ≡ image_refusal w h bytes places
  unfolding image_refusal
  refused_width e = rw e

  pub refused_height : bad_pvrtc_side w ≡ false → bad_pvrtc_side h ≡ true → 61 ≡ image_refusal w h bytes places
  unfolding image_refusal
  refused_height e f = rw (e, f)

  module _ (e : bad_pvrtc_side w ≡ false) (f : bad_pvrtc_side h ≡ false) where
    pub refused_bytes : (bytes ≡ 8 * words_in w h → ⊥) → 4 ≡ image_refusal w h bytes places
    unfolding image_refusal
    refused_bytes d = rw (e, f, ne_eqb bytes (8 * words_in w h) d)

    pub refused_places : bytes ≡ 8 * words_in w h → (places ≡ 4 * (w * h) → ⊥) → 5 ≡ image_refusal w h bytes places
    unfolding image_refusal
    refused_places d p = rw (e, f, eq-eqb bytes (8 * words_in w h) d, ne_eqb places (4 * (w * h)) p)

    pub accepted : bytes ≡ 8 * words_in w h → places ≡ 4 * (w * h) → 0 ≡ image_refusal w h bytes places
    unfolding image_refusal
    accepted d p = rw (e, f, eq-eqb bytes (8 * words_in w h) d, eq-eqb places (4 * (w * h)) p)
