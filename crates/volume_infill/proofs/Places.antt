-- Every texel of a block has a place on the grid: infill is defined there.
-- Assumes nothing.
use Prim.Native.Nat.{ℕ, ◌-◌, ◌*◌, ◌≤◌, ◌<◌}
use native.Mathlib.Omega.{arith}
use lib.Dec.{T, leb, leb→le}
use Rattle.laws.specs.Choice.{all}
use Rattle.laws.proofs.Computed.{each}
use Rattle.weight_grid.specs.Place.{scale_of, grid_place}
use Rattle.weight_grid.proofs.Reading.{place_le}
use Rattle.volume_infill.specs.inner.Way.{WithinGrid}

fits : T (all (λ side. leb (scale_of side * (side - 1)) 1026) 13)
unfolding scale_of
fits = tt

pub on_axis : (side i points : ℕ) → side ≤ 12 → i < side → points ≤ 12 → grid_place (scale_of side) i points ≤ 16 * (points - 1)
on_axis side i points s l p =
    place_le (scale_of side) side i points (leb→le _ _ (each (λ side. leb (scale_of side * (side - 1)) 1026) 13 fits side (omega arith))) l p

-- a grid of w x h x d points in a block of bw x bh x bd texels, the texel at x, y, z
pub placed : (bw bh bd w h d x y z : ℕ) → bw ≤ 12 → bh ≤ 12 → bd ≤ 12 → 1 ≤ w → w ≤ 12 → 1 ≤ h → h ≤ 12 → 1 ≤ d → d ≤ 12 → w * h * d ≤ 64
    → x < bw → y < bh → z < bd → WithinGrid w h d (grid_place (scale_of bw) x w) (grid_place (scale_of bh) y h) (grid_place (scale_of bd) z d)
placed bw bh bd w h d x y z sw sh sd wl wm hl hm dl dm room hx hy hz = record {
  width_low = wl;
  height_low = hl;
  depth_low = dl;
  column = on_axis bw x w sw hx wm;
  row = on_axis bh y h sh hy hm;
  layer = on_axis bd z d sd hz dm;
  room = room;
}
