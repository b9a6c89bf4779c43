-- The layout of an accepted volume, the parts of its blocks that lie within it, and the runs of texels that are copied.
-- Assumes nothing.
use Rattle.std.specs.Prelude.{◌≡◌, ℕ, ◌+◌, ◌*◌, ◌/◌, ◌≤◌, ◌<◌, ◌%◌, List}
use Rattle.footprint.specs.Footprint.{width_of, height_of, depth_of}
use Rattle.image_size.specs.Sides.{blocks_across}
use Rattle.volume_layout.specs.declared.VolumeGrid.{VolumeGrid}
use Rattle.volume_layout.specs.Numbers.{volume_number_at_in}
use Rattle.picture_regions.specs.inner.Regions.{Cropped, RowsCopied}
use Rattle.interpolation.specs.declared.Kind.{Kind}
use Rattle.block_reading.specs.declared.Reading.{Reading}
use Rattle.image_layout.specs.declared.Run.{Run}
use Rattle.volume_layout.specs.declared.VolumePart.{VolumePart}

-- the layout of an accepted volume
pub record SoundGrid (g : VolumeGrid) : Type 0 where
  pub footprint : g.footprint < 24
  pub width_least : 0 < g.width
  pub width_most : g.width ≤ 16384
  pub height_least : 0 < g.height
  pub height_most : g.height ≤ 16384
  pub depth_least : 0 < g.depth
  pub depth_most : g.depth ≤ 2048
  pub columns : g.columns ≡ width_of g.footprint
  pub columns_least : 0 < g.columns
  pub columns_most : g.columns ≤ 12
  pub rows : g.rows ≡ height_of g.footprint
  pub rows_least : 0 < g.rows
  pub rows_most : g.rows ≤ 12
  pub layers : g.layers ≡ depth_of g.footprint
  pub layers_least : 0 < g.layers
  pub layers_most : g.layers ≤ 6
  pub room : g.layers * g.rows * g.columns ≤ 216
  pub across : g.across ≡ blocks_across g.width g.columns
  pub across_least : 0 < g.across
  pub across_most : g.across ≤ 16384
  pub down : g.down ≡ blocks_across g.height g.rows
  pub down_least : 0 < g.down
  pub down_most : g.down ≤ 16384
  pub deep : g.deep ≡ blocks_across g.depth g.layers
  pub deep_most : g.deep ≤ 2048

-- row i of a part that begins in row y0 of layer z0 and has `rows` rows in each layer: where it lies in the volume, and in the block
abbrev pub to_row : ℕ → ℕ → ℕ → ℕ → ℕ → ℕ
to_row h y0 z0 rows i = (z0 + i / rows) * h + (y0 + i % rows)

abbrev pub from_row : ℕ → ℕ → ℕ → ℕ
from_row bh rows i = i / rows * bh + i % rows

-- the numbers of a volume by rows
abbrev pub volume_by_rows : Reading → VolumeGrid → Kind → List ℕ → ℕ → ℕ → ℕ → ℕ
volume_by_rows reading g kind s x q c = volume_number_at_in reading g.footprint kind g.width g.height s x (q % g.height) (q / g.height) c

-- the part is as much of a block as is within the volume
pub record PartFits (g : VolumeGrid) (p : VolumePart) : Type 0 where
  pub columns : Cropped g.width p.x g.columns p.columns
  pub rows : Cropped g.height p.y g.rows p.rows
  pub layers : Cropped g.depth p.z g.layers p.layers

-- the part of block b
pub record PartOf (g : VolumeGrid) (b : ℕ) (p : VolumePart) : Type 0 where
  pub x : p.x ≡ b % g.across * g.columns
  pub y : p.y ≡ b / g.across % g.down * g.rows
  pub z : p.z ≡ b / g.across / g.down * g.layers
  pub fits : PartFits g p

-- the run of row dy of layer dz
pub record RunOf (g : VolumeGrid) (p : VolumePart) (dy dz : ℕ) (r : Run) : Type 0 where
  pub from : r.from ≡ 4 * ((dz * g.rows + dy) * g.columns)
  pub at : r.at ≡ 4 * (((p.z + dz) * g.height + (p.y + dy)) * g.width + p.x)
  pub n : r.n ≡ 4 * p.columns

-- n rows of a part are copied
abbrev pub PlacedRows : (ℕ → ℕ) → VolumeGrid → VolumePart → ℕ → List ℕ → List ℕ → List ℕ → Type 0
PlacedRows show g p n buf old new =
    RowsCopied show g.width p.x p.columns g.columns (to_row g.height p.y p.z p.rows) (from_row g.rows p.rows) n buf old new
