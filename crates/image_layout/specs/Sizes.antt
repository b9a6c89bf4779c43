-- 02, e: "the fault count and block index must still never wrap". An image that is not refused by 1 or 3 has at most 2^24 blocks and 2^28 texels, and
-- so 2^28 bytes of blocks and 2^30 numbers: `Tally` has 64 bits. Theorem: proofs/Sizes.antt, `never_wraps`.
-- Assumes nothing.
use Rattle.std.specs.Prelude.{◌≡◌, false, ℕ, ◌*◌, ◌^◌, ◌≤◌, ◌<◌}
use Rattle.image_size.specs.Sides.{bad_side, blocks_of}
use Rattle.image_layout.specs.Faulty.{tally_of}

pub record NeverWraps : Type 0 where
  pub blocks : (fp w h : ℕ) → fp < 14 → bad_side w ≡ false → bad_side h ≡ false → blocks_of fp w h ≤ 2 ^ 24
  pub texels : (w h : ℕ) → bad_side w ≡ false → bad_side h ≡ false → h * w ≤ 2 ^ 28
  -- the count of n blocks and the index of the first are not above n
  pub count : (fault : ℕ → ℕ) (n : ℕ) → (tally_of fault n).count ≤ n
  pub first : (fault : ℕ → ℕ) (n : ℕ) → (tally_of fault n).first ≤ n
  -- the bounds are reached, at 4x4 with sides of 16,384
  pub blocks_reached : blocks_of 0 16384 16384 ≡ 2 ^ 24
