use mathlib.Core.Path.{◌≡◌, refl, ap}
use Prim.Native.Nat.{ℕ, ◌+◌, ◌-◌, ◌*◌, ◌/◌, ◌≤◌, ◌<◌}
use native.Mathlib.Nat.{mul-le-mul}
use native.Mathlib.Omega.{arith}
use lib.ListN.{get_or}
use Rattle.weight_grid.proofs.Points.{step_le}
use Rattle.block_buffer.proofs.Painting.{laid_texel, laid_as, laid_none, laid_done, row_end, place_fits}
use Rattle.block_core.proofs.Painting.{room_for}
use Rattle.block_core.proofs.PairPainting.{pair_reach, pair_room, pair_told}
use Rattle.block_core.proofs.paint_single.Goals as goal
use Rattle.block_core.proofs.paint_single.Goals.{After-grid_place-gt, In-loop-x}

-- a row of texels lies between rows of points
down_le : (c : After-grid_place-gt) → c.grid_place-gt.result ≤ 16 * (c.args.g.height - 1)
down_le c = omega (arith, c.grid_place-gt.ensures, c.requires.inside.rows c.loop-y.y c.loop-y-test.true)

-- the row of points above it begins within the grid
from_le : (c : After-grid_place-gt) → c.grid_place-gt.result / 16 * c.args.g.width ≤ 11 * 12
from_le c =
    let p = c.requires.inside in
    mul-le-mul {n₂ = 11} {m₂ = 12} (omega (arith, down_le c, p.limits.height_most)) p.limits.width_most

-- at a texel of a row
module _ (c : In-loop-x) where
  abbrev x : ℕ
  x = c.loop-x.x

  abbrev y : ℕ
  y = c.loop-y.y

  abbrev from : ℕ
  from = c.grid_place-gt.result / 16 * c.args.g.width

  abbrev next : ℕ
  next = from + c.step.result

  abbrev at : ℕ
  at = get_or c.places-places.result x 0 / 16

  narrow : x < 16
  narrow = omega (arith, c.loop-x-test.true, c.requires.inside.width_most)

  down : c.grid_place-gt.result ≤ 16 * (c.args.g.height - 1)
  down = omega (arith, c.grid_place-gt.ensures, c.requires.inside.rows y c.loop-y-test.true)

  -- the pairs that are read are the grid's
  room : (next + at < 64) × (from ≤ next)
  room = pair_reach c.args.g c.args.f c.requires.inside x c.grid_place-gt.result c.loop-x-test.true down c.places-places.ensures refl (ap (λ (k : ℕ). from + k) c.step.ensures)

  -- it lies in the buffer
  fits : 4 * (y * c.args.f.width + x) + 4 ≤ 864
  fits =
      let f = c.args.f in
      let p = c.requires.inside in
      place_fits f.width f.height _ _ (room_for f.width f.height p.width_most p.height_most) c.loop-x-test.true c.loop-y-test.true

pub bounds-places-i : goal.bounds-places-i
bounds-places-i c = omega (arith, c.loop-x-test.true, c.requires.inside.width_most)

pub infill_pairs-weight-requires : goal.infill_pairs-weight-requires
infill_pairs-weight-requires c =
    let t = (goal.at.infill_pairs-weight-requires c).In-loop-x in
    let a = c.args in
    let e = c.factor_pairs.ensures in
    pair_room a.g a.f c.requires.inside (x t) c.grid_place-gt.result c.loop-x-test.true (down t) c.places-places.ensures refl (ap (λ (k : ℕ). from t + k) c.step.ensures)
    a.points c.requires.one_plane c.pairs-pairs.ensures (e.upper_after refl) (e.lower_after refl)

-- the texel at the place is painted
pub loop-x-preserved : goal.loop-x-preserved
loop-x-preserved c =
    let t = (goal.at.loop-x-preserved c).In-loop-x in
    let a = c.args in
    let l = c.loop-x in
    let e = c.factor_pairs.ensures in
    λ points eq one old h w.
    rw c.put.ensures
    (laid_texel a.f.width _ old l.out l.x (y t) h c.loop-x-test.true (fits t)
    (pair_told a.g a.f c.requires.inside (x t) c.grid_place-gt.result c.loop-x-test.true (down t) c.places-places.ensures refl (ap (λ (k : ℕ). from t + k) c.step.ensures)
    points one eq (e.upper_after refl) (e.lower_after refl) a.kind a.lines.now (y t) c.infill_pairs-weight.result c.grid_place-gt.ensures c.infill_pairs-weight.ensures c.mix-texel.ensures)
    c.place.ensures (l.invariant points eq one old h w))

pub loop-y-preserved : goal.loop-y-preserved
loop-y-preserved c =
    let l = c.loop-x in
    let k = c.loop-y in
    λ points eq one e. laid_as _ _ _ _ (row_end c.args.f.width l.x k.y (omega (arith, c.loop-x-test.false))) (l.invariant points eq one _ e (k.invariant points eq one e))

pub returns : goal.returns
returns c =
    let l = c.loop-y in
    let a = c.args in
    let z : l.y ≡ a.f.height = omega (arith, c.loop-y-test.false) in
    λ e. laid_done a.f.width _ _ _ (a.f.height * a.f.width) (ap (λ (n : ℕ). 4 * (n * a.f.width)) z) (l.invariant a.points c.pairs-pairs.ensures c.requires.one_plane e)

pub places-places-requires : goal.places-places-requires
places-places-requires c = let p = c.requires.inside in record { by_index = p.columns; points_bound = (p.limits.width_most, p.width_most) }

pub pairs-pairs-requires : goal.pairs-pairs-requires
pairs-pairs-requires c = c.requires.one_plane

pub loop-y-init : goal.loop-y-init
loop-y-init c = λ points eq one e. laid_none _ _ _ (omega arith)

pub overflow_mul-from : goal.overflow_mul-from
overflow_mul-from c = omega (arith, from_le c)

pub overflow_add-next : goal.overflow_add-next
overflow_add-next c =
    let a = c.args in
    omega (arith, from_le (goal.at.overflow_add-next c).After-grid_place-gt, c.step.ensures, step_le c.grid_place-gt.result a.g.height a.g.width, c.requires.inside.limits.width_most)

pub loop-x-init : goal.loop-x-init
loop-x-init c = λ points eq one old e w. laid_as _ _ _ _ (omega arith) w

pub offset_bounds-places-i : goal.offset_bounds-places-i
offset_bounds-places-i c = omega (arith, c.loop-x-test.true, c.requires.inside.width_most)

pub overflow_cast-at : goal.overflow_cast-at
overflow_cast-at c = omega (arith, room (goal.at.overflow_cast-at c).In-loop-x)

pub overflow_add-above : goal.overflow_add-above
overflow_add-above c = omega (arith, room (goal.at.overflow_add-above c).In-loop-x)

pub offset_bounds-pairs-from : goal.offset_bounds-pairs-from
offset_bounds-pairs-from c = omega (arith, room (goal.at.offset_bounds-pairs-from c).In-loop-x)

pub bounds-pairs-from : goal.bounds-pairs-from
bounds-pairs-from c = omega (arith, room (goal.at.bounds-pairs-from c).In-loop-x)

pub overflow_add-below : goal.overflow_add-below
overflow_add-below c = omega (arith, room (goal.at.overflow_add-below c).In-loop-x)

pub offset_bounds-pairs-next : goal.offset_bounds-pairs-next
offset_bounds-pairs-next c = omega (arith, room (goal.at.offset_bounds-pairs-next c).In-loop-x)

pub bounds-pairs-next : goal.bounds-pairs-next
bounds-pairs-next c = omega (arith, room (goal.at.bounds-pairs-next c).In-loop-x)

pub offset_bounds-upper-i : goal.offset_bounds-upper-i
offset_bounds-upper-i c = omega (arith, narrow (goal.at.offset_bounds-upper-i c).In-loop-x)

pub bounds-upper-i : goal.bounds-upper-i
bounds-upper-i c = narrow (goal.at.bounds-upper-i c).In-loop-x

pub offset_bounds-lower-i : goal.offset_bounds-lower-i
offset_bounds-lower-i c = omega (arith, narrow (goal.at.offset_bounds-lower-i c).In-loop-x)

pub bounds-lower-i : goal.bounds-lower-i
bounds-lower-i c = narrow (goal.at.bounds-lower-i c).In-loop-x

pub put-requires : goal.put-requires
put-requires c = rw c.place.ensures (fits (goal.at.put-requires c).In-loop-x)
