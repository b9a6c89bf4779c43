-- 02, e, "the fault count and block index must still never wrap", with the depths of 02, h: a volume that is not refused by 1 or 3 has at most 2^35
-- blocks and 2^39 texels, and so 2^39 bytes of blocks and 2^41 numbers, in 64 bits. Theorem: proofs/Sizes.antt, `never_wraps`.
-- Assumes nothing.
use Rattle.std.specs.Prelude.{◌≡◌, false, ℕ, ◌^◌, ◌≤◌, ◌<◌}
use Rattle.volume_layout.specs.Numbers.{texels_in}
use Rattle.volume_layout.specs.Call.{bad_sizes, blocks_of}

pub record NeverWraps : Type 0 where
  pub blocks : (fp w h d : ℕ) → fp < 24 → bad_sizes w h d ≡ false → blocks_of fp w h d ≤ 2 ^ 35
  pub texels : (w h d : ℕ) → bad_sizes w h d ≡ false → texels_in w h d ≤ 2 ^ 39
  -- both are reached: 16,384 x 16,384 x 2,048 at 4x4
  pub blocks_reached : blocks_of 0 16384 16384 2048 ≡ 2 ^ 35
  pub texels_reached : texels_in 16384 16384 2048 ≡ 2 ^ 39
