-- A flat picture by rows: each row of blocks has as many rows of texels as a block has.
-- Assumes nothing.
use Rattle.std.specs.Prelude.{◌/◌}
use Rattle.picture_regions.specs.inner.Regions.{Picture}
use Rattle.image_layout.specs.declared.ImageGrid.{ImageGrid}

abbrev pub flat_picture : ImageGrid → Picture
flat_picture g = record { width = g.width; rows = g.height; columns = g.columns; across = g.across; down = g.down; row = λ y. y / g.rows }
