-- The layout of an image that is not refused.
-- Assumes nothing.
use Rattle.std.specs.Prelude.{ℕ}
use Rattle.footprint.specs.Footprint.{width_of, height_of}
use Rattle.image_size.specs.Sides.{blocks_across}
use Rattle.image_layout.specs.declared.ImageGrid.{ImageGrid}

unfoldable pub image_grid : ℕ → ℕ → ℕ → ImageGrid
image_grid fp w h = record {
  footprint = fp;
  width = w;
  height = h;
  columns = width_of fp;
  rows = height_of fp;
  across = blocks_across w (width_of fp);
  down = blocks_across h (height_of fp);
}
