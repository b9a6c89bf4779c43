use mathlib.Core.Path.{◌≡◌, refl, ap, ◌∙◌}
use mathlib.Core.List.{List}
use Prim.Native.Nat.{ℕ, ◌+◌, ◌-◌, ◌*◌, ◌/◌, ◌≤◌, ◌<◌}
use native.Mathlib.Nat.{mul-le-mul}
use native.Mathlib.Omega.{arith}
use lib.ListN.{get_or}
use Rattle.laws.proofs.Filling.{padded_here}
use Rattle.weight_grid.proofs.Points.{step_le}
use Rattle.weight_grid.specs.declared.Column.{Column}
use Rattle.weight_grid.specs.inner.Columns.{grid_column, no_column}
use Rattle.partition.proofs.Rows.{which_lt}
use Rattle.block_buffer.proofs.Painting.{laid_texel, laid_as, laid_none, laid_done, row_end, place_fits}
use Rattle.block_core.proofs.Painting.{reach_column, on_grid_told, told, room_for}
use Rattle.block_core.proofs.paint.Goals as goal
use Rattle.block_core.proofs.paint.Goals.{After-grid_place-gt, In-loop-x}

-- the row of points above a row of texels begins within the grid
from_le : (c : After-grid_place-gt) → c.grid_place-gt.result / 16 * c.args.g.width ≤ 11 * 12
from_le c =
    let p = c.requires.inside in
    let d : c.grid_place-gt.result ≤ 16 * (c.args.g.height - 1) = omega (arith, c.grid_place-gt.ensures, p.rows c.loop-y.y c.loop-y-test.true) in
    mul-le-mul {n₂ = 11} {m₂ = 12} (omega (arith, d, p.limits.height_most)) p.limits.width_most

-- at a texel of a row
module _ (c : In-loop-x) where
  abbrev x : ℕ
  x = c.loop-x.x

  abbrev y : ℕ
  y = c.loop-y.y

  abbrev column : Column
  column = get_or c.columns-columns.result x no_column

  abbrev upper : ℕ
  upper = c.grid_place-gt.result / 16 * c.args.g.width

  abbrev lower : ℕ
  lower = upper + c.step.result

  narrow : x < 12
  narrow = omega (arith, c.loop-x-test.true, c.requires.inside.width_most)

  column_is : column ≡ grid_column c.args.f.across c.args.g.width x
  column_is =
      let a = c.args in
      ap (λ (l : List Column). get_or l x no_column) c.columns-columns.ensures
      ∙ padded_here (grid_column a.f.across a.g.width) no_column 12 a.f.width x no_column narrow c.loop-x-test.true

  -- the points that are read are the grid's
  room : (lower + column.next < 64) × (column.at ≤ column.next) × (upper ≤ lower)
  room =
      let a = c.args in
      let p = c.requires.inside in
      reach_column a.g a.f x column column_is refl (ap (λ (k : ℕ). upper + k) c.step.ensures) p.limits p.count (p.columns x c.loop-x-test.true)
      (omega (arith, c.grid_place-gt.ensures, p.rows y c.loop-y-test.true))

  -- the partition that is found has a line
  which_line : get_or c.row_partitions-which.result x 0 < 4
  which_line = which_lt c.args.seeds c.args.partitions y x c.row_partitions-which.ensures (omega (arith, narrow))

  -- it lies in the buffer
  fits : 4 * (y * c.args.f.width + x) + 4 ≤ 864
  fits =
      let f = c.args.f in
      let p = c.requires.inside in
      place_fits f.width f.height _ _ (room_for f.width f.height p.width_most p.height_most) c.loop-x-test.true c.loop-y-test.true

pub bounds-columns-x : goal.bounds-columns-x
bounds-columns-x c = narrow (goal.at.bounds-columns-x c).In-loop-x

pub bounds-lines-which : goal.bounds-lines-which
bounds-lines-which c = which_line (goal.at.bounds-lines-which c).In-loop-x

-- the texel at the place is painted
pub loop-x-preserved : goal.loop-x-preserved
loop-x-preserved c =
    let t = (goal.at.loop-x-preserved c).In-loop-x in
    let a = c.args in
    let l = c.loop-x in
    let shown = told a.kind a.g a.component a.points a.lines.now a.seeds a.partitions a.f (x t) (y t) (omega (arith, narrow t)) c.row_partitions-which.ensures
    (on_grid_told a.g a.f (x t) (column t) (column_is t) refl (ap (λ (k : ℕ). upper t + k) c.step.ensures)
    a.kind a.component a.points a.lines.now (y t) _ c.infill_both-both.result c.grid_place-gt.ensures c.infill_both-both.ensures.result_value c.infill_both-both.ensures.result_value_2 c.mix-t.ensures) in
    λ old e w. rw c.put.ensures (laid_texel a.f.width _ old l.out l.x c.loop-y.y e c.loop-x-test.true (fits t) shown c.place.ensures (l.invariant old e w))

pub loop-y-preserved : goal.loop-y-preserved
loop-y-preserved c =
    let l = c.loop-x in
    λ e. laid_as _ _ _ _ (row_end c.args.f.width l.x c.loop-y.y (omega (arith, c.loop-x-test.false))) (l.invariant _ e (c.loop-y.invariant e))

pub returns : goal.returns
returns c =
    let l = c.loop-y in
    let a = c.args in
    let z : l.y ≡ a.f.height = omega (arith, c.loop-y-test.false) in
    λ e. laid_done a.f.width _ _ _ (a.f.height * a.f.width) (ap (λ (n : ℕ). 4 * (n * a.f.width)) z) (l.invariant e)

pub columns-columns-requires : goal.columns-columns-requires
columns-columns-requires c = let p = c.requires.inside in record { by_index = p.columns; points_bound = (p.limits.width_most, p.width_most) }

pub loop-y-init : goal.loop-y-init
loop-y-init c = λ e. laid_none _ _ _ (omega arith)

pub overflow_mul-upper : goal.overflow_mul-upper
overflow_mul-upper c = omega (arith, from_le c)

pub overflow_add-lower : goal.overflow_add-lower
overflow_add-lower c =
    let a = c.args in
    omega (arith, from_le (goal.at.overflow_add-lower c).After-grid_place-gt, c.step.ensures, step_le c.grid_place-gt.result a.g.height a.g.width, c.requires.inside.limits.width_most)

pub loop-x-init : goal.loop-x-init
loop-x-init c = λ old e w. laid_as _ _ _ _ (omega arith) w

pub offset_bounds-columns-x : goal.offset_bounds-columns-x
offset_bounds-columns-x c = omega (arith, narrow (goal.at.offset_bounds-columns-x c).In-loop-x)

pub overflow_add-p00 : goal.overflow_add-p00
overflow_add-p00 c = omega (arith, room (goal.at.overflow_add-p00 c).In-loop-x)

pub offset_bounds-points-upper : goal.offset_bounds-points-upper
offset_bounds-points-upper c = omega (arith, room (goal.at.offset_bounds-points-upper c).In-loop-x)

pub bounds-points-upper : goal.bounds-points-upper
bounds-points-upper c = omega (arith, room (goal.at.bounds-points-upper c).In-loop-x)

pub overflow_add-p01 : goal.overflow_add-p01
overflow_add-p01 c = omega (arith, room (goal.at.overflow_add-p01 c).In-loop-x)

pub offset_bounds-points-upper-in-loop-x : goal.offset_bounds-points-upper-in-loop-x
offset_bounds-points-upper-in-loop-x c = omega (arith, room (goal.at.offset_bounds-points-upper-in-loop-x c).In-loop-x)

pub bounds-points-upper-in-loop-x : goal.bounds-points-upper-in-loop-x
bounds-points-upper-in-loop-x c = omega (arith, room (goal.at.bounds-points-upper-in-loop-x c).In-loop-x)

pub overflow_add-p10 : goal.overflow_add-p10
overflow_add-p10 c = omega (arith, room (goal.at.overflow_add-p10 c).In-loop-x)

pub offset_bounds-points-lower : goal.offset_bounds-points-lower
offset_bounds-points-lower c = omega (arith, room (goal.at.offset_bounds-points-lower c).In-loop-x)

pub bounds-points-lower : goal.bounds-points-lower
bounds-points-lower c = omega (arith, room (goal.at.bounds-points-lower c).In-loop-x)

pub overflow_add-p11 : goal.overflow_add-p11
overflow_add-p11 c = omega (arith, room (goal.at.overflow_add-p11 c).In-loop-x)

pub offset_bounds-points-lower-in-loop-x : goal.offset_bounds-points-lower-in-loop-x
offset_bounds-points-lower-in-loop-x c = omega (arith, room (goal.at.offset_bounds-points-lower-in-loop-x c).In-loop-x)

pub bounds-points-lower-in-loop-x : goal.bounds-points-lower-in-loop-x
bounds-points-lower-in-loop-x c = omega (arith, room (goal.at.bounds-points-lower-in-loop-x c).In-loop-x)

pub infill_both-both-requires : goal.infill_both-both-requires
infill_both-both-requires c = let h = c.requires.byte_levels in (h _, h _, h _, h _)

pub offset_bounds-which-x : goal.offset_bounds-which-x
offset_bounds-which-x c = omega (arith, narrow (goal.at.offset_bounds-which-x c).In-loop-x)

pub bounds-which-x : goal.bounds-which-x
bounds-which-x c = omega (arith, narrow (goal.at.bounds-which-x c).In-loop-x)

pub overflow_cast-line-in-loop-x : goal.overflow_cast-line-in-loop-x
overflow_cast-line-in-loop-x c = omega (arith, which_line (goal.at.overflow_cast-line-in-loop-x c).In-loop-x)

pub offset_bounds-lines-which : goal.offset_bounds-lines-which
offset_bounds-lines-which c = omega (arith, which_line (goal.at.offset_bounds-lines-which c).In-loop-x)

pub put-requires : goal.put-requires
put-requires c = rw c.place.ensures (fits (goal.at.put-requires c).In-loop-x)
