-- A word loaded from the image's bytes.
-- Assumes nothing.
use mathlib.Core.Path.{◌≡◌, refl, sym, ap, subst, ◌∙◌}
use mathlib.Core.List.{List}
use Prim.Native.Nat.{ℕ, ◌+◌, ◌*◌, ◌%◌, ◌^◌, ◌≤◌, ◌<◌}
use native.Mathlib.Omega.{arith}
use lib.ListN.{length, take, drop, get_or, length-take, length-drop, get_or-eq_default}
use lib.Seq.{get_or-take, get_or-drop}
use lib.Pow.{pow_pos, pow_mono}
use native.Mathlib.Decide.{dec_lt}
use Rattle.bits.specs.Field.{field}
use Rattle.bits.specs.Block.{number_of, block_number}
use Rattle.bits.specs.declared.PhysicalBlock.{PhysicalBlock}
use Rattle.bits.proofs.Blocks.{number_lt}
use Rattle.laws.specs.Table.{Bytes}
use Rattle.bits.proofs.Halves.{low_whole, one_shl}
use Rattle.pvrtc_order.proofs.Once.{once}
use Rattle.pvrtc_order.specs.Order.{word_place}
use Rattle.pvrtc_texel.specs.Image.{word_at_place, word_at}
use Rattle.pvrtc_rows.specs.inner.Rows.{WordsSized}

module _ (s : List ℕ) (p : ℕ) (room : 8 * p + 8 ≤ length s) (small : Bytes s) where
  eight : length (take 8 (drop (8 * p) s)) ≡ 8
  eight = simp (length-take, length-drop) (omega arith)

  each : Bytes (take 8 (drop (8 * p) s))
  each i =
      elim (dec_lt i 8) [
        | yes h ↦ rw (get_or-take 8 (drop (8 * p) s) i 0 h, get_or-drop (8 * p) s i 0) (small (8 * p + i))
        | no h ↦ rw (get_or-eq_default (take 8 (drop (8 * p) s)) 0 {n = i} (omega (arith, eight))) (omega arith)
      ]

  word_lt : word_at_place s p < 2 ^ 64
  unfolding word_at_place
  word_lt = rw eight at (number_lt (take 8 (drop (8 * p) s)) each)

  -- the low half of what is loaded from the word's bytes
  pub loaded : (n : ℕ) → n ≡ 8 → (b : PhysicalBlock) → block_number b ≡ field (number_of (take n (drop (8 * p) s))) 0 128 → b.lo ≡ word_at_place s p
  unfolding word_at_place block_number
  loaded n e b h =
      let w = number_of (take 8 (drop (8 * p) s)) in
      let f : field w 0 128 ≡ w = sym (low_whole w 128 word_lt (omega arith)) in
      let g : b.hi * 2 ^ 64 + b.lo ≡ w = (rw e at h) ∙ f in
      omega (arith, g, word_lt)

-- the bytes of a word of the image are there
pub word_room : (xb yb : ℕ) (s : List ℕ) (x y p : ℕ) → WordsSized xb yb s → x < 2 ^ xb → y < 2 ^ yb → p ≡ word_place xb yb x y → 8 * p + 8 ≤ length s
word_room xb yb s x y p h hx hy e = rw h.bytes (omega (arith, e, (once xb yb).inside x y hx hy))

-- a column or row is a small number
pub side_lt : (bits x : ℕ) → bits ≤ 10 → x < 2 ^ bits → x < 1024
side_lt bits x h l = omega (arith, l, pow_mono {j = 10} h)

pub along : (bits : ℕ) → bits ≤ 10 → (1 * 2 ^ bits % 2 ^ 64 ≡ 2 ^ bits) × (0 < 2 ^ bits) × (2 ^ bits ≤ 1024)
along bits h = let l : 2 ^ bits ≤ 2 ^ 10 = pow_mono {j = 10} h in
    (one_shl bits (omega arith), pow_pos bits, l)

pub texels_most : (bits x : ℕ) → bits ≤ 10 → x < 4 * 2 ^ bits → x < 4096
texels_most bits x h l = omega (arith, l, pow_mono {j = 10} h)
