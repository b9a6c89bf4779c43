-- A block's texels lie within its weight grid.
-- Assumes nothing.
use mathlib.Core.Bool.{Bool, false}
use mathlib.Core.Path.{◌≡◌, sym, ap, ◌∙◌, subst}
use Prim.Native.Nat.{ℕ, ◌*◌, ◌≤◌, ◌<◌}
use native.Mathlib.Nat.{mul_comm, mul_assoc}
use native.Mathlib.Omega.{arith}
use lib.Dec.{T, eqb, eqb→eq}
use borrow.Author.Tests.{ltb-false}
use Rattle.laws.specs.Choice.{both, all}
use Rattle.laws.proofs.Computed.{both_left, both_right, each}
use Rattle.weight_grid.specs.Place.{scale_of, grid_place}
use Rattle.footprint.specs.Footprint.{footprints, width_of, height_of, depth_of, texels_of, is_volume}
use Rattle.footprint.proofs.Laws.{width_le, height_le, depth_le, texels_le}
use Rattle.volume_infill.proofs.Places.{on_axis}
use Rattle.block_mode.specs.declared.WeightGrid.{WeightGrid}
use Rattle.block_mode.specs.Back2D.{Limits}
use Rattle.block_header.specs.Counts.{weight_count}
use Rattle.block_levels.proofs.Levels.{points_le}
use Rattle.volume_paint.specs.inner.Volume.{InVolume}
use Rattle.block_core.specs.inner.Prepared.{frame_of, volume_frame_of, Inside}

-- a block's texels, layer by layer
pub texels_by_layers : (fp : ℕ) → texels_of fp ≡ depth_of fp * height_of fp * width_of fp
unfolding texels_of
texels_by_layers fp =
    mul_comm (width_of fp * height_of fp) (depth_of fp)
    ∙ ap (λ (k : ℕ). depth_of fp * k) (mul_comm (width_of fp) (height_of fp))
    ∙ sym (mul_assoc (depth_of fp) (height_of fp) (width_of fp))

-- where a grid has a point for each texel of a side, the texel's place is its point: so it is on the sides of flat footprints (on a side of 11 it
-- would not be)
on_points : ℕ → Bool
on_points side = all (λ i. eqb (grid_place (scale_of side) i side) (16 * i)) side

exact : T (all (λ fp. both (on_points (width_of fp)) (on_points (height_of fp))) 14)
unfolding on_points scale_of grid_place width_of height_of footprints
exact = tt

on_side : (side : ℕ) → T (on_points side) → (i : ℕ) → i < side → grid_place (scale_of side) i side ≡ 16 * i
unfolding on_points
on_side side t i h = eqb→eq _ _ (each (λ i. eqb (grid_place (scale_of side) i side) (16 * i)) side t i h)

module _ (fp : ℕ) (flat : is_volume fp ≡ false) where
  both_sides : T (both (on_points (width_of fp)) (on_points (height_of fp)))
  unfolding is_volume
  both_sides = each (λ fp. both (on_points (width_of fp)) (on_points (height_of fp))) 14 exact fp (omega (arith, ltb-false 13 fp flat))

  pub on_column : (i : ℕ) → i < width_of fp → grid_place (scale_of (width_of fp)) i (width_of fp) ≡ 16 * i
  on_column = on_side (width_of fp) (both_left (on_points (width_of fp)) _ both_sides)

  pub on_row : (i : ℕ) → i < height_of fp → grid_place (scale_of (height_of fp)) i (height_of fp) ≡ 16 * i
  on_row = on_side (height_of fp) (both_right (on_points (width_of fp)) _ both_sides)

module _ (fp : ℕ) (g : WeightGrid) (l : Limits g) (n : weight_count g ≤ 64) where
  pub inside : Inside g (frame_of fp)
  unfolding frame_of
  inside = record {
    columns = λ x h. on_axis (width_of fp) x g.width (width_le fp) h l.width_most;
    rows = λ y h. on_axis (height_of fp) y g.height (height_le fp) h l.height_most;
    limits = l;
    count = n;
    width_most = width_le fp;
    height_most = height_le fp;
  }

  pub in_volume_lem : InVolume g.width g.height g.depth (volume_frame_of fp)
  unfolding volume_frame_of
  in_volume_lem = record {
    columns = λ x h. on_axis (width_of fp) x g.width (width_le fp) h l.width_most;
    rows = λ y h. on_axis (height_of fp) y g.height (height_le fp) h l.height_most;
    layers = λ z h. on_axis (depth_of fp) z g.depth (omega (arith, depth_le fp)) h (omega (arith, l.depth_most));
    width_least = omega (arith, l.width_low);
    height_least = omega (arith, l.height_low);
    depth_least = l.depth_low;
    room = points_le g l n;
    width_most = width_le fp;
    height_most = height_le fp;
    depth_most = depth_le fp;
    texels = subst (λ (k : ℕ). k ≤ 216) (texels_by_layers fp) (texels_le fp);
  }
