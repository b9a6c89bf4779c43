-- The texel of a flat block whose weights and endpoints are unquantised, its points packed, its pairs made lines and its partition seeds made:
-- what is left to do for each texel.
-- Assumes nothing.
use Rattle.std.specs.Prelude.{ℕ, ◌-◌, ◌*◌, ◌≤◌, ◌<◌, List, [], eqb, get_or}
use Rattle.laws.specs.Choice.{pick}
use Rattle.bits.specs.declared.PhysicalBlock.{PhysicalBlock}
use Rattle.footprint.specs.Footprint.{width_of, height_of, depth_of}
use Rattle.block_mode.specs.declared.WeightGrid.{WeightGrid}
use Rattle.block_mode.specs.Back2D.{Limits}
use Rattle.block_header.specs.Counts.{weight_count}
use Rattle.partition.specs.declared.Seeds.{Seeds}
use Rattle.partition.specs.inner.Seeds.{select_by}
use Rattle.weight_grid.specs.Place.{scale_of, grid_place}
use Rattle.encoding.specs.declared.LevelPair.{LevelPair}
use Rattle.encoding.specs.inner.Levels.{first_level, second_level}
use Rattle.weight_grid.specs.inner.Points.{no_point, read_of}
use Rattle.interpolation.specs.declared.Kind.{Kind}
use Rattle.interpolation.specs.declared.Texel.{Texel}
use Rattle.half_line.specs.inner.Line.{texel_on}
use Rattle.volume_paint.specs.declared.VolumeFrame.{VolumeFrame}
use Rattle.block_core.specs.declared.FlatFrame.{FlatFrame}

-- the sides of a footprint and the scales of a grid along them
unfoldable pub frame_of : ℕ → FlatFrame
frame_of fp = record { width = width_of fp; height = height_of fp; across = scale_of (width_of fp); down = scale_of (height_of fp) }

unfoldable pub volume_frame_of : ℕ → VolumeFrame
volume_frame_of fp = record {
  width = width_of fp;
  height = height_of fp;
  depth = depth_of fp;
  across = scale_of (width_of fp);
  down = scale_of (height_of fp);
  inward = scale_of (depth_of fp);
}

module _ (kind : Kind) (g : WeightGrid) (component : ℕ) (points : List LevelPair) (lines : List (List ℕ)) where
  -- the texel of partition p at gs, gt of the grid; `component` takes the second weight, 4 standing for none
  unfoldable pub texel_on_grid : ℕ → ℕ → ℕ → Texel
  texel_on_grid p gs gt =
      texel_on kind (get_or lines p []) (read_of first_level points g.width g.height gs gt) (read_of second_level points g.width g.height gs gt) component

  -- the texel at x, y of a block
  unfoldable pub prepared_texel : Seeds → ℕ → FlatFrame → ℕ → ℕ → Texel
  unfolding texel_on_grid
  prepared_texel seeds partitions f x y =
      texel_on_grid (pick (eqb partitions 1) 0 (select_by seeds x y)) (grid_place f.across x g.width) (grid_place f.down y g.height)

-- the same with one partition and one plane
unfoldable pub single_texel : Kind → WeightGrid → List LevelPair → List (List ℕ) → FlatFrame → ℕ → ℕ → Texel
single_texel kind g points lines f x y =
    texel_on_grid kind g 4 points lines 0 (grid_place f.across x g.width) (grid_place f.down y g.height)

-- the texel of partition 0 at the weights of point t
unfoldable pub point_texel : Kind → ℕ → List LevelPair → List (List ℕ) → ℕ → Texel
point_texel kind component points lines t =
    texel_on kind (get_or lines 0 []) (first_level (get_or points t no_point)) (second_level (get_or points t no_point)) component

-- a block of two halves
abbrev pub halves : ℕ → ℕ → PhysicalBlock
halves lo hi = record { lo = lo; hi = hi }

-- no place of the block lies past the grid's last point, and there is room for its weights and its texels
pub record Inside (g : WeightGrid) (f : FlatFrame) : Type 0 where
  pub columns : (x : ℕ) → x < f.width → grid_place f.across x g.width ≤ 16 * (g.width - 1)
  pub rows : (y : ℕ) → y < f.height → grid_place f.down y g.height ≤ 16 * (g.height - 1)
  pub limits : Limits g
  pub count : weight_count g ≤ 64
  pub width_most : f.width ≤ 12
  pub height_most : f.height ≤ 12
