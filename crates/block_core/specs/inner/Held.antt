-- What a lent buffer of 864 numbers holds once a block is decoded into it.
-- Assumes nothing.
use Rattle.std.specs.Prelude.{◌≡◌, ℕ, ◌*◌, ◌<◌, List, length, get_or}
use Rattle.footprint.specs.Footprint.{texels_of}
use Rattle.interpolation.specs.declared.Kind.{Kind}
use Rattle.texel.specs.BlockTexel.{block_channel}

-- the first numbers are those of the block B, in 16 bits
pub record Held (fp : ℕ) (kind : Kind) (B : ℕ) (l : List ℕ) : Type 0 where
  pub size : length l ≡ 864
  pub holds : (k : ℕ) → k < 4 * texels_of fp → get_or l k 0 ≡ block_channel fp kind B k
