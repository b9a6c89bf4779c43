use mathlib.Core.Path.{◌≡◌, sym, ap, ◌∙◌}
use Prim.Native.Nat.{ℕ, ◌+◌, ◌*◌, ◌≤◌, ◌<◌}
use native.Mathlib.Omega.{arith}
use Rattle.partition.proofs.Rows.{which_lt}
use Rattle.volume_infill.specs.inner.Way.{WithinGrid}
use Rattle.volume_infill.proofs.Reading.{Routed, routed}
use Rattle.block_buffer.proofs.Painting.{laid_texel, laid_as, laid_none, laid_done, row_end}
use Rattle.volume_paint.proofs.Painting.{row_lt, layer_end, rows_most, in_buffer, on_grid, told}
use Rattle.volume_paint.proofs.paint_volume.Goals as goal
use Rattle.volume_paint.proofs.paint_volume.Goals.{After-grid_place-gs, After-route_at-k}

-- at a texel of a row of a layer
module _ (c : After-grid_place-gs) where
  abbrev x : ℕ
  x = c.loop-x.x

  abbrev y : ℕ
  y = c.loop-y.y

  abbrev z : ℕ
  z = c.loop-z.z

  on_place : WithinGrid c.args.width c.args.height c.args.depth c.grid_place-gs.result c.grid_place-gt.result c.grid_place-gr.result
  on_place = on_grid _ _ _ _ c.requires.in_volume x y z c.loop-x-test.true c.loop-y-test.true c.loop-z-test.true c.grid_place-gs.ensures c.grid_place-gt.ensures c.grid_place-gr.ensures

  -- a row of a block is not wider than the row of partitions
  narrow : x < 16
  narrow = omega (arith, c.loop-x-test.true, c.requires.in_volume.width_most)

  -- it lies in the buffer
  fits : 4 * (c.row_of-q.result * c.args.f.width + x) + 4 ≤ 864
  fits =
      let f = c.args.f in
      in_buffer _ _ _ _ c.requires.in_volume x c.row_of-q.result c.loop-x-test.true (omega (arith, c.row_of-q.ensures, row_lt f.height f.depth y z c.loop-y-test.true c.loop-z-test.true))

-- the points that are read are the grid's
facts : (c : After-route_at-k) → Routed c.route_at-k.result
facts c = routed _ _ _ _ _ _ (on_place c.before) c.route_at-k.ensures

-- the partition that is found has a line
pub bounds-lines-which : goal.bounds-lines-which
bounds-lines-which c =
    let t = (goal.at.bounds-lines-which c).After-grid_place-gs in
    which_lt c.layer_seeds-seeds.result c.args.partitions (y t) (x t) c.row_partitions-which.ensures (narrow t)

-- the texel at the place is painted
pub loop-x-preserved : goal.loop-x-preserved
loop-x-preserved c =
    let t = (goal.at.loop-x-preserved c).After-grid_place-gs in
    let l = c.loop-x in
    let a = c.args in
    let shown = told a.kind a.width a.height a.depth a.component a.points a.lines.now a.index a.partitions a.small a.f (x t) (y t) (z t) c.row_of-q.result
    c.layer_seeds-seeds.result c.blend_pairs-both.result (narrow t) c.loop-y-test.true c.row_of-q.ensures
    (c.layer_seeds-seeds.ensures.by_index (x t) (y t)) c.row_partitions-which.ensures
    c.grid_place-gs.ensures c.grid_place-gt.ensures c.grid_place-gr.ensures
    c.route_at-k.ensures c.blend_pairs-both.ensures.result_value c.blend_pairs-both.ensures.result_value_2 c.mix-t.ensures in
    λ old e w. rw c.put.ensures (laid_texel a.f.width _ old l.out l.x c.row_of-q.result e c.loop-x-test.true (fits t) shown c.place.ensures (l.invariant old e w))

pub loop-y-preserved : goal.loop-y-preserved
loop-y-preserved c =
    let l = c.loop-x in
    let q = c.row_of-q in
    let k = c.loop-y in
    let f = c.args.f in
    let n : q.result + 1 ≡ c.loop-z.z * f.height + (k.y + 1) = omega (arith, q.ensures) in
    λ old e w. laid_as _ _ _ _ (row_end f.width l.x q.result (omega (arith, c.loop-x-test.false)) ∙ ap (λ (m : ℕ). 4 * (m * f.width)) n)
    (l.invariant old e (laid_as _ _ _ _ (ap (λ (m : ℕ). 4 * (m * f.width)) (sym q.ensures)) (k.invariant old e w)))

pub loop-z-preserved : goal.loop-z-preserved
loop-z-preserved c =
    let l = c.loop-y in
    let f = c.args.f in
    λ e. laid_as _ _ _ _ (layer_end f.width f.height c.loop-z.z l.y (omega (arith, c.loop-y-test.false))) (l.invariant _ e (c.loop-z.invariant e))

pub returns : goal.returns
returns c =
    let l = c.loop-z in
    let f = c.args.f in
    let e : l.z ≡ f.depth = omega (arith, c.loop-z-test.false) in
    λ h. laid_done f.width _ _ _ (f.depth * f.height * f.width) (ap (λ (n : ℕ). 4 * (n * f.height * f.width)) e) (l.invariant h)

pub loop-z-init : goal.loop-z-init
loop-z-init c = λ e. laid_none _ _ _ (omega arith)

pub loop-y-init : goal.loop-y-init
loop-y-init c = λ old e w. laid_as _ _ _ _ (omega arith) w

pub row_of-q-requires : goal.row_of-q-requires
row_of-q-requires c =
    let f = c.args.f in
    omega (arith, rows_most _ _ _ _ c.requires.in_volume, row_lt f.height f.depth c.loop-y.y c.loop-z.z c.loop-y-test.true c.loop-z-test.true)

pub loop-x-init : goal.loop-x-init
loop-x-init c = λ old e w. laid_as _ _ _ _ (omega arith) w

pub route_at-k-requires : goal.route_at-k-requires
route_at-k-requires c = on_place c

pub offset_bounds-points-n0 : goal.offset_bounds-points-n0
offset_bounds-points-n0 c = omega (arith, (facts (goal.at.offset_bounds-points-n0 c).After-route_at-k).n0)

pub bounds-points-n0 : goal.bounds-points-n0
bounds-points-n0 c = (facts (goal.at.bounds-points-n0 c).After-route_at-k).n0

pub offset_bounds-points-n1 : goal.offset_bounds-points-n1
offset_bounds-points-n1 c = omega (arith, (facts (goal.at.offset_bounds-points-n1 c).After-route_at-k).n1)

pub bounds-points-n1 : goal.bounds-points-n1
bounds-points-n1 c = (facts (goal.at.bounds-points-n1 c).After-route_at-k).n1

pub offset_bounds-points-n2 : goal.offset_bounds-points-n2
offset_bounds-points-n2 c = omega (arith, (facts (goal.at.offset_bounds-points-n2 c).After-route_at-k).n2)

pub bounds-points-n2 : goal.bounds-points-n2
bounds-points-n2 c = (facts (goal.at.bounds-points-n2 c).After-route_at-k).n2

pub offset_bounds-points-n3 : goal.offset_bounds-points-n3
offset_bounds-points-n3 c = omega (arith, (facts (goal.at.offset_bounds-points-n3 c).After-route_at-k).n3)

pub bounds-points-n3 : goal.bounds-points-n3
bounds-points-n3 c = (facts (goal.at.bounds-points-n3 c).After-route_at-k).n3

pub blend_pairs-both-requires : goal.blend_pairs-both-requires
blend_pairs-both-requires c = let h = c.requires.byte_levels in record { w3_value = (facts (goal.at.blend_pairs-both-requires c).After-route_at-k).sum; byte_pair = (h _, h _, h _, h _) }

pub offset_bounds-which-x : goal.offset_bounds-which-x
offset_bounds-which-x c = omega (arith, narrow (goal.at.offset_bounds-which-x c).After-grid_place-gs)

pub bounds-which-x : goal.bounds-which-x
bounds-which-x c = narrow (goal.at.bounds-which-x c).After-grid_place-gs

pub put-requires : goal.put-requires
put-requires c = rw c.place.ensures (fits (goal.at.put-requires c).After-grid_place-gs)
