-- 01, "What is covered": in which block of an image a texel lies.
-- Assumes nothing.
use Rattle.std.specs.Prelude.{ℕ, ◌+◌, ◌*◌, ◌/◌}
use Rattle.footprint.specs.Footprint.{width_of, height_of}
use Rattle.image_size.specs.Sides.{blocks_across}

-- "blocks in raster order": the block that covers column x of row y
unfoldable pub block_index : ℕ → ℕ → ℕ → ℕ → ℕ
block_index fp w x y = y / height_of fp * blocks_across w (width_of fp) + x / width_of fp
