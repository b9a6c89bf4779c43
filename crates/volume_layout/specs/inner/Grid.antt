-- The layout of a volume that is not refused.
-- Assumes nothing.
use Rattle.std.specs.Prelude.{ℕ}
use Rattle.footprint.specs.Footprint.{width_of, height_of, depth_of}
use Rattle.image_size.specs.Sides.{blocks_across}
use Rattle.volume_layout.specs.declared.VolumeGrid.{VolumeGrid}

unfoldable pub volume_grid : ℕ → ℕ → ℕ → ℕ → VolumeGrid
volume_grid fp w h d = record {
  footprint = fp;
  width = w;
  height = h;
  depth = d;
  columns = width_of fp;
  rows = height_of fp;
  layers = depth_of fp;
  across = blocks_across w (width_of fp);
  down = blocks_across h (height_of fp);
  deep = blocks_across d (depth_of fp);
}
