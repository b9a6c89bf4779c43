-- 02, k: an image from its bytes, and what a call refuses.
-- Assumes nothing.
use Rattle.std.specs.Prelude.{ℕ, zero, suc, ◌*◌, ◌/◌, ◌%◌, ◌^◌, ◌≤◌, ◌≡◌, Bool, false, not, List, [], ◌∷◌, eqb, ltb, length, take, drop}
use Rattle.laws.specs.Choice.{pick, either}
use Rattle.laws.specs.Reasons.{Reason, when, first_of}
use Rattle.laws.specs.Table.{tab}
use Rattle.bits.specs.Block.{number_of}
use Rattle.pvrtc_order.specs.Order.{word_place}
use Rattle.pvrtc_texel.specs.Texel.{texel_at}

-- the least i of the n from k on with side 4 * 2 ^ i, k + n where there is none
unfoldable pub bits_from : ℕ → ℕ → ℕ → ℕ
bits_from side k zero = k
bits_from side k (suc n) = pick (eqb side (4 * 2 ^ k)) k (bits_from side (suc k) n)

-- 002's Xb and Yb, "the number of bits used to express" a word's column or row. "Sides are powers of two from 4 to 4,096": 0 to 10, and 11
-- for any other side
unfoldable pub side_bits : ℕ → ℕ
unfolding bits_from
side_bits side = bits_from side 0 11

unfoldable pub bad_pvrtc_side : ℕ → Bool
unfolding side_bits
bad_pvrtc_side side = ltb 10 (side_bits side)

-- the sides that are not refused are these eleven, and side_bits is their log2 less 2 (theorem: proofs/Sides.antt, `sides_taken`)
pub record SidesTaken : Type 0 where
  pub taken : (k : ℕ) → k ≤ 10 → bad_pvrtc_side (4 * 2 ^ k) ≡ false
  pub only : (side : ℕ) → bad_pvrtc_side side ≡ false → (side_bits side ≤ 10) × (side ≡ 4 * 2 ^ side_bits side)

-- how many words an image has
unfoldable pub words_in : ℕ → ℕ → ℕ
words_in w h = w / 4 * (h / 4)

-- "Sides are powers of two from 4 to 4,096, else new refusal 61, tested first; then 4 (bytes not exactly 8 for each word) and 5"
unfoldable pub image_refusals : ℕ → ℕ → ℕ → ℕ → List Reason
image_refusals w h bytes places =
    when (either (bad_pvrtc_side w) (bad_pvrtc_side h)) 61
    ∷ when (not (eqb bytes (8 * words_in w h))) 4
    ∷ when (not (eqb places (4 * (w * h)))) 5
    ∷ []

-- what the call answers: the number of its refusal, 0 where there is none
unfoldable pub image_refusal : ℕ → ℕ → ℕ → ℕ → ℕ
unfolding image_refusals
image_refusal w h bytes places = first_of (image_refusals w h bytes places)

-- the word at a place: "64-bit little-endian words"
unfoldable pub word_at_place : List ℕ → ℕ → ℕ
word_at_place s n = number_of (take 8 (drop (8 * n) s))

-- the word in column X and row Y of an image with 2 ^ a columns and 2 ^ b rows of words
unfoldable pub word_at : ℕ → ℕ → List ℕ → ℕ → ℕ → ℕ
unfolding word_at_place word_place
word_at a b s X Y = word_at_place s (word_place a b X Y)

-- channel c of texel (x, y) of this image
unfoldable pub image_texel : ℕ → ℕ → List ℕ → ℕ → ℕ → ℕ → ℕ
unfolding texel_at word_at
image_texel a b s x y c = texel_at (2 ^ a) (2 ^ b) (word_at a b s) x y c

-- all bytes of an image w texels wide and h high: R, G, B, A, rows first
unfoldable pub image_bytes : ℕ → ℕ → List ℕ → List ℕ
unfolding image_texel side_bits tab
image_bytes w h s = tab (λ n. image_texel (side_bits w) (side_bits h) s (n / 4 % w) (n / 4 / w) (n % 4)) (4 * (w * h))

-- the result buffer after the call: "nothing is written" on a refusal
unfoldable pub image_out : ℕ → ℕ → List ℕ → List ℕ → List ℕ
unfolding image_refusal image_bytes
image_out w h s old = pick (eqb (image_refusal w h (length s) (length old)) 0) (image_bytes w h s) old
