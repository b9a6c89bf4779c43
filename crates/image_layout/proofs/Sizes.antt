-- No count of an image wraps.
-- Assumes nothing.
use mathlib.Core.Path.{◌≡◌, refl}
use mathlib.Core.Bool.{false}
use Prim.Native.Nat.{ℕ, ◌+◌, ◌-◌, ◌*◌, ◌/◌, ◌≤◌, ◌<◌}
use native.Mathlib.Nat.{mul-le-mul, div-lt_iff_lt-mul, add-mul}
use native.Mathlib.Decide.{dec_lt}
use native.Mathlib.Omega.{arith}
use borrow.Author.Tests.{lt-ltb, le-ltb}
use Rattle.footprint.specs.Footprint.{footprints, width_of, height_of}
use Rattle.footprint.proofs.Laws.{flat_bounds}
use Rattle.image_size.specs.Sides.{bad_side, blocks_across, blocks_of}
use Rattle.image_size.proofs.Laws.{limit_le, side_fine}
use Rattle.image_layout.specs.Faulty.{first_faulty, of_first, tally_of}
use Rattle.image_layout.specs.Sizes.{NeverWraps}
use Rattle.image_layout.proofs.Tallies.{count_le}

-- at most k blocks of n cover a side of at most k * n
pub across_most : (side n k : ℕ) → 0 < n → side ≤ k * n → blocks_across side n ≤ k
unfolding blocks_across
across_most side n k p l =
    let e : (k + 1) * n ≡ k * n + 1 * n = add-mul k 1 n in
    let m : (side + n - 1) / n < k + 1 = (div-lt_iff_lt-mul p).1 (omega arith) in
    omega arith

side_le : (n : ℕ) → bad_side n ≡ false → n ≤ 16384
side_le n e = let s = (side_fine n e).1 in let l = limit_le in omega arith

blocks : (fp w h : ℕ) → fp < 14 → bad_side w ≡ false → bad_side h ≡ false → blocks_of fp w h ≤ 16777216
unfolding blocks_of
blocks fp w h f a b =
    let m = flat_bounds fp f in
    let i = m.width_least in
    let j = m.height_least in
    let x = side_le w a in
    let y = side_le h b in
    let r : blocks_across h (height_of fp) * blocks_across w (width_of fp) ≤ 4096 * 4096 =
    mul-le-mul (across_most h (height_of fp) 4096 (omega arith) (omega arith)) (across_most w (width_of fp) 4096 (omega arith) (omega arith)) in
    omega arith

texels : (w h : ℕ) → bad_side w ≡ false → bad_side h ≡ false → h * w ≤ 268435456
texels w h a b = let r : h * w ≤ 16384 * 16384 = mul-le-mul (side_le h b) (side_le w a) in omega arith

count : (f : ℕ → ℕ) (n : ℕ) → (tally_of f n).count ≤ n
unfolding tally_of
count f n = count_le f n

first : (f : ℕ → ℕ) (n : ℕ) → (tally_of f n).first ≤ n
unfolding tally_of of_first
first f n =
    elim (dec_lt (first_faulty f n) n) [
      | yes l ↦ rw (lt-ltb (first_faulty f n) n l) (omega arith)
      | no l ↦ rw (le-ltb (first_faulty f n) n (omega arith)) (omega arith)
    ]

reached : blocks_of 0 16384 16384 ≡ 16777216
unfolding blocks_of blocks_across width_of height_of footprints
reached = refl

pub never_wraps : NeverWraps
never_wraps = record { blocks = blocks; texels = texels; count = count; first = first; blocks_reached = reached }
