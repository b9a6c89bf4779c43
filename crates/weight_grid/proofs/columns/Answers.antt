use mathlib.Core.Path.{sym, ap, ◌∙◌}
use Prim.Native.Nat.{ℕ}
use native.Mathlib.Omega.{arith}
use Rattle.laws.specs.Table.{tab, padded}
use Rattle.laws.proofs.Filling.{padded_none, padded_more}
use Rattle.weight_grid.specs.inner.Columns.{grid_column, no_column}
use Rattle.weight_grid.proofs.columns.Goals as goal

pub loop-x-init : goal.loop-x-init
unfolding tab
loop-x-init c = sym (padded_none (grid_column c.args.scale c.args.points) no_column 12)

pub loop-x-preserved : goal.loop-x-preserved
loop-x-preserved c =
    let q = c.before in
    let l = q.loop-x in
    let s = q.before.before in
    rw l.invariant (padded_more (grid_column s.args.scale s.args.points) no_column 12 l.x _ (omega (arith, q.loop-x-test.true, s.requires.points_bound)) c.column_at.ensures)

pub returns : goal.returns
returns c =
    let l = c.loop-x in
    let a = c.args in
    l.invariant ∙ ap (λ (n : ℕ). padded 12 n (grid_column a.scale a.points) no_column) (omega (arith, c.loop-x-test.false))

pub column_at-requires : goal.column_at-requires
column_at-requires c = let s = c.before.before in (s.requires.by_index c.loop-x.x c.loop-x-test.true, s.requires.points_bound.0)

pub offset_bounds-out-x : goal.offset_bounds-out-x
offset_bounds-out-x c = omega (arith, c.loop-x-test.true, c.requires.points_bound)

pub bounds-out-x : goal.bounds-out-x
bounds-out-x c = omega (arith, c.loop-x-test.true, c.requires.points_bound)
