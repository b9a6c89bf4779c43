-- Beyond 01: what the calls for C tell of sizes.
-- Assumes nothing.
use Rattle.std.specs.Prelude.{ℕ, ◌*◌, eqb}
use Rattle.laws.specs.Choice.{pick, either}
use Rattle.footprint.specs.Footprint.{texels_of}
use Rattle.image_size.specs.Sides.{bad_side, size_refusal, blocks_of}

-- how many blocks an image has, 0 where the image calls refuse it by 1 or 3
unfoldable pub image_block_count : ℕ → ℕ → ℕ → ℕ
image_block_count fp w h = pick (eqb (size_refusal fp w h) 0) (blocks_of fp w h) 0

-- how many numbers its result buffer takes, 0 where they refuse by 3: "Channels are R, G, B, A"
unfoldable pub buffer_numbers : ℕ → ℕ → ℕ
buffer_numbers w h = pick (either (bad_side w) (bad_side h)) 0 (4 * (h * w))

-- how many a block's takes
unfoldable pub block_number_count : ℕ → ℕ
block_number_count fp = 4 * texels_of fp
