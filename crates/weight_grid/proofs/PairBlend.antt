-- The middle of the products of two pairs of points by the pairs of their factors is the blend of the four, and what the code reads of a grid of
-- one plane is what stands there.
-- Assumes nothing.
use mathlib.Core.Path.{◌≡◌, refl, sym, ap, ◌∙◌}
use mathlib.Core.Bool.{Bool, true, false}
use mathlib.Core.List.{List}
use Prim.Native.Nat.{ℕ, ◌+◌, ◌-◌, ◌*◌, ◌/◌, ◌%◌, ◌≤◌, ◌<◌}
use native.Mathlib.Nat.{mul-le-mul_right, mul-add, add-mul, mul_assoc, mul_left_comm, zero-mul}
use native.Mathlib.Decide.{dec_lt}
use native.Mathlib.Omega.{arith}
use lib.Dec.{ltb}
use lib.ListN.{get_or}
use borrow.Author.Tests.{lt-ltb}
use Rattle.laws.specs.Choice.{pick}
use Rattle.encoding.specs.declared.LevelPair.{LevelPair}
use Rattle.encoding.specs.inner.Levels.{first_level, second_level}
use Rattle.weight_grid.specs.Bilinear.{w00, w01, w10, w11, blend_of}
use Rattle.weight_grid.specs.inner.Points.{neighbour_step, no_point, read_of}
use Rattle.weight_grid.specs.inner.Pairs.{OnePlane, pair_at, upper_pair, lower_pair, pair_blend}
use Rattle.weight_grid.proofs.Factors.{Shares, shares, total_le, blend_le}
use Rattle.weight_grid.proofs.Reading.{right_none, read_lt}

-- a pair by a pair of factors: its middle has left by left and right by right
product : (p q u v : ℕ) → (q + 2048 * p) * (u + 2048 * v) ≡ q * u + 2048 * (p * u + q * v) + 4194304 * (p * v)
product p q u v =
    let e1 = add-mul q (2048 * p) (u + 2048 * v) in
    let e2 = mul-add q u (2048 * v) in
    let e3 = mul_left_comm q 2048 v in
    let e4 = mul_assoc 2048 p (u + 2048 * v) in
    let e5 = mul-add p u (2048 * v) in
    let e6 = mul_left_comm p 2048 v in
    omega arith

module _ (fs ft a b c d : ℕ) (hs : fs < 16) (ht : ft < 16) (ha : a ≤ 64) (hb : b ≤ 64) (hc : c ≤ 64) (hd : d ≤ 64) where
  abbrev low : ℕ
  low = b * w00 fs ft + d * w10 fs ft

  abbrev middle : ℕ
  middle = a * w00 fs ft + b * w01 fs ft + c * w10 fs ft + d * w11 fs ft

  abbrev high : ℕ
  high = a * w01 fs ft + c * w11 fs ft

  low_le : low ≤ 1024
  unfolding w00 w10 w11
  low_le = let s : Shares fs ft = shares fs ft hs ht in
      omega (arith, mul-le-mul_right (16 + w11 fs ft - fs - ft) hb, mul-le-mul_right (ft - w11 fs ft) hd)

  high_le : high ≤ 960
  unfolding w01 w11
  high_le = let s : Shares fs ft = shares fs ft hs ht in
      omega (arith, mul-le-mul_right (fs - w11 fs ft) ha, mul-le-mul_right (w11 fs ft) hc)

  sum : (b + 2048 * a) * upper_pair fs ft + (d + 2048 * c) * lower_pair fs ft ≡ low + 2048 * middle + 4194304 * high
  unfolding upper_pair lower_pair
  sum = omega (arith, product a b (w00 fs ft) (w01 fs ft), product c d (w10 fs ft) (w11 fs ft))

  middle_le : middle ≤ 1024
  middle_le = total_le 64 fs ft a b c d hs ht ha hb hc hd

  pub pairs_room : (b + 2048 * a) * upper_pair fs ft + (d + 2048 * c) * lower_pair fs ft ≤ 4278190079
  pairs_room = rw sum (omega (arith, low_le, middle_le, high_le))

  pub pairs_blend : pair_blend (upper_pair fs ft) (lower_pair fs ft) (b + 2048 * a) (d + 2048 * c) ≡ blend_of fs ft a b c d
  unfolding pair_blend blend_of
  pairs_blend = rw sum (middle_of low middle high low_le middle_le) where
    middle_of : (l m h : ℕ) → l ≤ 1024 → m ≤ 1024 → (l + 2048 * m + 4194304 * h + 16384) / 32768 % 128 ≡ (m + 8) / 16
    middle_of l m h hl hm = omega arith

-- at a place of the grid: the pairs of its row begin at `from`, those of the next one at `next`
module _ (points : List LevelPair) (one : OnePlane points) (width height gs gt : ℕ) (w : 1 ≤ width) (h : 1 ≤ height) (hs : gs ≤ 16 * (width - 1)) (ht : gt ≤ 16 * (height - 1)) (room : width * height ≤ 64) where
  abbrev at : ℕ → ℕ
  at k = (get_or points k no_point).0

  -- the point after it
  abbrev after : ℕ → ℕ
  after k = (pick (ltb k 63) (get_or points (k + 1) no_point) no_point).0

  after_le : (k : ℕ) → after k ≤ 64
  after_le k = go (ltb k 63) where
    go : (t : Bool) → (pick t (get_or points (k + 1) no_point) no_point).0 ≤ 64
    go true = one (k + 1)
    go false = omega arith

  abbrev from : ℕ
  from = gt / 16 * width + gs / 16

  abbrev next : ℕ
  next = from + neighbour_step gt height width

  abbrev upper : ℕ
  upper = upper_pair (gs % 16) (gt % 16)

  abbrev lower : ℕ
  lower = lower_pair (gs % 16) (gt % 16)

  pub room_at : (pair_at points from).0 * upper + (pair_at points next).0 * lower ≤ 4278190079
  unfolding pair_at
  room_at = pairs_room (gs % 16) (gt % 16) (at from) (after from) (at next) (after next) (omega arith) (omega arith) (one from) (after_le from) (one next) (after_le next)

  -- the blend of the points and of those after them
  abbrev blended : ℕ
  blended = blend_of (gs % 16) (gt % 16) (at from) (after from) (at next) (after next)

  blended_at : pair_blend upper lower (pair_at points from).0 (pair_at points next).0 ≡ blended
  unfolding pair_at
  blended_at = pairs_blend (gs % 16) (gt % 16) (at from) (after from) (at next) (after next) (omega arith) (omega arith) (one from) (after_le from) (one next) (after_le next)

  blended_le : blended ≤ 64
  blended_le = blend_le 64 (gs % 16) (gt % 16) (at from) (after from) (at next) (after next) (omega arith) (omega arith) (one from) (after_le from) (one next) (after_le next)

  -- a point has a level of the first plane alone
  first_at : (k : ℕ) → first_level (get_or points k no_point) ≡ at k
  first_at k = omega (arith, one k)

  second_at : (k : ℕ) → second_level (get_or points k no_point) ≡ 0
  second_at k = omega (arith, one k)

  -- in the grid the point after it is the right neighbour
  after_is : (k : ℕ) → k < 63 → after k ≡ at (k + 1)
  after_is k h = ap (λ (t : Bool). (pick t (get_or points (k + 1) no_point) no_point).0) (lt-ltb k 63 h)

  one_right : gs / 16 + 1 < width → neighbour_step gs width 1 ≡ 1
  unfolding neighbour_step
  one_right p = rw (lt-ltb (gs / 16 + 1) width p)

  right_is : (k : ℕ) → k < 63 → gs / 16 + 1 < width → after k ≡ first_level (get_or points (k + neighbour_step gs width 1) no_point)
  right_is k h p = rw (one_right p) (after_is k h ∙ sym (first_at (k + 1)))

  blended_first : blended ≡ read_of first_level points width height gs gt
  unfolding read_of
  blended_first =
      elim (dec_lt (gs / 16 + 1) width) [
        | yes p ↦ let r : next < 63 = last p in same (gs % 16) (gt % 16) (sym (first_at from)) (right_is from (omega (arith, r)) p) (sym (first_at next)) (right_is next r p)
        | no p ↦
            let z : gs % 16 ≡ 0 = omega arith in
            rw z (right_none (gt % 16) (at from) (after from) (at next) (after next) _ _ ∙ same 0 (gt % 16) (sym (first_at from)) refl (sym (first_at next)) refl)
      ]
    where
      same : (fs ft : ℕ) {a b c d a' b' c' d' : ℕ} → a ≡ a' → b ≡ b' → c ≡ c' → d ≡ d' → blend_of fs ft a b c d ≡ blend_of fs ft a' b' c' d'
      same fs ft ea eb ec ed = cc

      last : gs / 16 + 1 < width → next < 63
      last p = let s : neighbour_step gs width 1 ≡ 1 = one_right p in omega (arith, read_lt width height gs gt w h hs ht, s)

  module _ {weight : LevelPair} (e : weight.0 ≡ pair_blend upper lower (pair_at points from).0 (pair_at points next).0) where
    pub first_pairs : first_level weight ≡ read_of first_level points width height gs gt
    first_pairs = (let b = blended_at in let l = blended_le in let q : weight.0 % 256 ≡ blended = omega (arith, e, b, l) in q) ∙ blended_first

    pub second_pairs : second_level weight ≡ read_of second_level points width height gs gt
    unfolding read_of blend_of
    second_pairs =
        let b = blended_at in
        let l = blended_le in
        let q : weight.0 / 65536 ≡ 0 = omega (arith, e, b, l) in
        q ∙ rw (second_at from, second_at (from + neighbour_step gs width 1), second_at next, second_at (next + neighbour_step gs width 1), zero-mul (w00 (gs % 16) (gt % 16)), zero-mul (w01 (gs % 16) (gt % 16)), zero-mul (w10 (gs % 16) (gt % 16)), zero-mul (w11 (gs % 16) (gt % 16)))
