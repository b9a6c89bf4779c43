-- The layout of an accepted image, the parts of its blocks that lie within it, and the runs of texels that are copied.
-- Assumes nothing.
use Rattle.std.specs.Prelude.{◌≡◌, List, ℕ, ◌*◌, ◌≤◌, ◌<◌, ◌+◌, ◌/◌, ◌%◌}
use Rattle.footprint.specs.Footprint.{width_of, height_of}
use Rattle.image_layout.specs.declared.ImageGrid.{ImageGrid}
use Rattle.image_size.specs.Sides.{blocks_across}
use Rattle.picture_regions.specs.inner.Regions.{RowsCopied, Cropped}
use Rattle.image_layout.specs.declared.Part.{Part}
use Rattle.image_layout.specs.declared.Run.{Run}

-- a layout of an accepted image
pub record SoundGrid (g : ImageGrid) : Type 0 where
  pub footprint : g.footprint < 14
  pub width_least : 0 < g.width
  pub width_most : g.width ≤ 16384
  pub height_least : 0 < g.height
  pub height_most : g.height ≤ 16384
  pub columns : g.columns ≡ width_of g.footprint
  pub columns_least : 0 < g.columns
  pub columns_most : g.columns ≤ 12
  pub rows : g.rows ≡ height_of g.footprint
  pub rows_least : 0 < g.rows
  pub rows_most : g.rows ≤ 12
  pub across : g.across ≡ blocks_across g.width g.columns
  pub across_least : 0 < g.across
  pub across_most : g.across ≤ 16384
  pub down : g.down ≡ blocks_across g.height g.rows
  pub down_most : g.down ≤ 16384

-- the part is as much of a block as is within the image
pub record PartFits (g : ImageGrid) (p : Part) : Type 0 where
  pub columns : Cropped g.width p.x g.columns p.columns
  pub rows : Cropped g.height p.y g.rows p.rows

-- the part of block b
pub record PartOf (g : ImageGrid) (b : ℕ) (p : Part) : Type 0 where
  pub x : p.x ≡ b % g.across * g.columns
  pub y : p.y ≡ b / g.across * g.rows
  pub fits : PartFits g p

-- the run of row dy
pub record RunOf (g : ImageGrid) (p : Part) (dy : ℕ) (r : Run) : Type 0 where
  pub from : r.from ≡ 4 * (dy * g.columns)
  pub at : r.at ≡ 4 * ((p.y + dy) * g.width + p.x)
  pub n : r.n ≡ 4 * p.columns

-- the run lies within a source and a result of so many numbers
pub record RunFits (r : Run) (source result : ℕ) : Type 0 where
  pub in_source : r.from + r.n ≤ source
  pub in_result : r.at + r.n ≤ result

-- n rows of a part are copied
abbrev pub PlacedRows : (ℕ → ℕ) → ImageGrid → Part → ℕ → List ℕ → List ℕ → List ℕ → Type 0
PlacedRows show g p n buf old new = RowsCopied show g.width p.x p.columns g.columns (λ i. p.y + i) (λ i. i) n buf old new
