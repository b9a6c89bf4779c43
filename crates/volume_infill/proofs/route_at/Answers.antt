use mathlib.Core.Path.{◌≡◌}
use native.Mathlib.Omega.{arith}
use Rattle.volume_infill.proofs.Reading.{Reach, reach, route_told}
use borrow.Author.Rules.{rules}
use Rattle.volume_infill.proofs.route_at.Goals as goal
use Rattle.volume_infill.proofs.route_at.Goals.{After-way-k}

facts : (c : After-way-k) → Reach c.point_at-n.result c.step-right.result c.step-below.result c.step-behind.result c.way-k.result
facts c =
    let s = c.before.before.before.before.before.before in
    reach s.args.width s.args.height s.args.depth s.args.gs s.args.gt s.args.gr s.requires c.layer_size-layer.ensures
    c.point_at-n.ensures c.step-right.ensures c.step-below.ensures c.step-behind.ensures c.way-k.ensures

pub overflow_add-first : goal.overflow_add-first
overflow_add-first c = omega (arith, facts c.before)

pub overflow_add-second : goal.overflow_add-second
overflow_add-second c = omega (arith, facts c.before.before)

pub overflow_add-far : goal.overflow_add-far
overflow_add-far c = omega (arith, facts c.before.before)

pub overflow_add-far-2 : goal.overflow_add-far-2
overflow_add-far-2 c = omega (arith, facts c.before.before)

pub overflow_add-far-3 : goal.overflow_add-far-3
overflow_add-far-3 c = omega (arith, facts c.before.before)

pub returns : goal.returns
returns c =
    let d = c.before.before in
    let s = d.before.before.before.before.before.before in
    route_told s.args.width s.args.height s.args.depth s.args.gs s.args.gt s.args.gr s.requires d.layer_size-layer.ensures
    d.point_at-n.ensures d.step-right.ensures d.step-below.ensures d.step-behind.ensures d.way-k.ensures
