-- A volume as a picture by rows, for the code that it shares with images.
-- Assumes nothing.
use Rattle.std.specs.Prelude.{ℕ, ◌+◌, ◌*◌, ◌/◌, ◌%◌}
use Rattle.picture_regions.specs.inner.Regions.{Picture}
use Rattle.volume_layout.specs.declared.VolumeGrid.{VolumeGrid}

-- the row of blocks that shows row q of a volume, in layers of h rows and of ny rows of blocks
unfoldable pub volume_row : ℕ → ℕ → ℕ → ℕ → ℕ → ℕ
volume_row h ny bh bd q = q / h / bd * ny + q % h / bh

-- a volume by rows
abbrev pub volume_picture : VolumeGrid → Picture
volume_picture g = record {
  width = g.width;
  rows = g.depth * g.height;
  columns = g.columns;
  across = g.across;
  down = g.deep * g.down;
  row = volume_row g.height g.down g.rows g.layers;
}
