-- The points of a block's weight grid, which are never listed.
-- Assumes nothing.
use Rattle.std.specs.Prelude.{ℕ, ◌*◌, List}
use Rattle.encoding.specs.declared.LevelPair.{LevelPair}
use Rattle.weight_grid.specs.inner.Points.{points_of}
use Rattle.block_header.specs.declared.BlockHeader.{BlockHeader}
use Rattle.block_fault.specs.Bits.{weight_at}
use Rattle.texel.specs.Meaning.{weight_levels}

-- the points of the block B
abbrev pub points_at : ℕ → BlockHeader → List LevelPair
points_at B h = points_of (weight_levels h.grid.range (weight_at B h)) h.grid.planes (h.grid.width * h.grid.height * h.grid.depth)
