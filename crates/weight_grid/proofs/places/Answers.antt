use mathlib.Core.Path.{sym, ap, ◌∙◌}
use Prim.Native.Nat.{ℕ, ◌≤◌}
use native.Mathlib.Omega.{arith}
use Rattle.laws.specs.Table.{tab, padded}
use Rattle.laws.proofs.Filling.{padded_none, padded_more}
use Rattle.weight_grid.specs.Place.{grid_place}
use Rattle.weight_grid.proofs.places.Goals as goal
use Rattle.weight_grid.proofs.places.Goals.{After-grid_place}

pub loop-i-init : goal.loop-i-init
unfolding tab
loop-i-init c = sym (padded_none (λ k. grid_place c.args.scale k c.args.points) 0 16)

-- a place has room in 16 bits
low : (c : After-grid_place) → c.grid_place.result ≤ 176
low c = let s = c.before.before.before in
    omega (arith, c.grid_place.ensures, s.requires.by_index c.loop-i.i c.loop-i-test.true, s.requires.points_bound)

pub loop-i-preserved : goal.loop-i-preserved
loop-i-preserved c =
    let q = c.before in
    let l = q.loop-i in
    let s = q.before.before in
    rw l.invariant (padded_more (λ k. grid_place s.args.scale k s.args.points) 0 16 l.i _ (omega (arith, q.loop-i-test.true, s.requires.points_bound)) c.grid_place.ensures)

pub returns : goal.returns
returns c =
    let l = c.loop-i in
    let a = c.args in
    l.invariant ∙ ap (λ (n : ℕ). padded 16 n (λ k. grid_place a.scale k a.points) 0) (omega (arith, c.loop-i-test.false))

pub overflow_cast-out : goal.overflow_cast-out
overflow_cast-out c = omega (arith, low c)

pub offset_bounds-out-i : goal.offset_bounds-out-i
offset_bounds-out-i c = omega (arith, c.loop-i-test.true, c.requires.points_bound)

pub bounds-out-i : goal.bounds-out-i
bounds-out-i c = omega (arith, c.loop-i-test.true, c.requires.points_bound)
