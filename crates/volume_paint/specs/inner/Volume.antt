-- The texel of a volume's block whose weights and endpoints are unquantised, its points packed and its pairs made lines: what is left to do for
-- each texel. That it is the block's texel by the definitions is a theorem of block_core.
-- Assumes nothing.
use Rattle.std.specs.Prelude.{ℕ, ◌-◌, ◌*◌, ◌≤◌, ◌<◌, Bool, List, [], get_or}
use Rattle.encoding.specs.declared.LevelPair.{LevelPair}
use Rattle.encoding.specs.inner.Levels.{first_level, second_level}
use Rattle.partition.specs.Select.{partition_of}
use Rattle.weight_grid.specs.Place.{grid_place}
use Rattle.volume_infill.specs.inner.Way.{volume_read}
use Rattle.interpolation.specs.declared.Kind.{Kind}
use Rattle.interpolation.specs.declared.Texel.{Texel}
use Rattle.half_line.specs.inner.Line.{texel_on}
use Rattle.volume_paint.specs.declared.VolumeFrame.{VolumeFrame}

module _ (kind : Kind) (width height depth component : ℕ) (points : List LevelPair) (lines : List (List ℕ)) where
  -- the texel of partition p at gs, gt, gr of the grid; `component` takes the second weight, 4 standing for none
  unfoldable pub volume_texel_at : ℕ → ℕ → ℕ → ℕ → Texel
  volume_texel_at p gs gt gr =
      texel_on kind (get_or lines p []) (volume_read first_level points width height depth gs gt gr) (volume_read second_level points width height depth gs gt gr) component

  -- the texel at x, y, z of a block
  unfoldable pub volume_texel : ℕ → ℕ → Bool → VolumeFrame → ℕ → ℕ → ℕ → Texel
  unfolding volume_texel_at
  volume_texel index partitions small f x y z =
      volume_texel_at (partition_of index partitions small x y z)
      (grid_place f.across x width) (grid_place f.down y height) (grid_place f.inward z depth)

-- no place of the block lies past the grid's last point, and there is room for its weights and its texels
pub record InVolume (width height depth : ℕ) (f : VolumeFrame) : Type 0 where
  pub columns : (x : ℕ) → x < f.width → grid_place f.across x width ≤ 16 * (width - 1)
  pub rows : (y : ℕ) → y < f.height → grid_place f.down y height ≤ 16 * (height - 1)
  pub layers : (z : ℕ) → z < f.depth → grid_place f.inward z depth ≤ 16 * (depth - 1)
  pub width_least : 1 ≤ width
  pub height_least : 1 ≤ height
  pub depth_least : 1 ≤ depth
  pub room : width * height * depth ≤ 64
  pub width_most : f.width ≤ 12
  pub height_most : f.height ≤ 12
  pub depth_most : f.depth ≤ 6
  pub texels : f.depth * f.height * f.width ≤ 216
