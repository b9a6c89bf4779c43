use mathlib.Core.Path.{◌∙◌, ap, sym}
use native.Mathlib.Omega.{arith}
use Rattle.encoding.specs.inner.Levels.{first_level, second_level}
use Rattle.volume_infill.specs.inner.Way.{along, volume_read}
use Rattle.volume_infill.proofs.Reading.{Routed, routed}
use borrow.Author.Rules.{rules}
use Rattle.volume_infill.proofs.infill_volume.Goals as goal
use Rattle.volume_infill.proofs.infill_volume.Goals.{After-route_at-k}

facts : (c : After-route_at-k) → Routed c.route_at-k.result
facts c =
    let a = c.args in
    routed a.width a.height a.depth a.gs a.gt a.gr c.requires.within_grid c.route_at-k.ensures

pub offset_bounds-points-n0 : goal.offset_bounds-points-n0
offset_bounds-points-n0 c = omega (arith, (facts c).n0)

pub bounds-points-n0 : goal.bounds-points-n0
bounds-points-n0 c = (facts c).n0

pub offset_bounds-points-n1 : goal.offset_bounds-points-n1
offset_bounds-points-n1 c = omega (arith, (facts c.before).n1)

pub bounds-points-n1 : goal.bounds-points-n1
bounds-points-n1 c = (facts c.before).n1

pub offset_bounds-points-n2 : goal.offset_bounds-points-n2
offset_bounds-points-n2 c = omega (arith, (facts c.before.before).n2)

pub bounds-points-n2 : goal.bounds-points-n2
bounds-points-n2 c = (facts c.before.before).n2

pub offset_bounds-points-n3 : goal.offset_bounds-points-n3
offset_bounds-points-n3 c = omega (arith, (facts c.before.before.before).n3)

pub bounds-points-n3 : goal.bounds-points-n3
bounds-points-n3 c = (facts c.before.before.before).n3

pub blend_pairs-requires : goal.blend_pairs-requires
blend_pairs-requires c = let d = c.before.before.before.before in
    let h = d.requires.byte_levels in record { w3_value = (facts d).sum; byte_pair = (h _, h _, h _, h _) }

pub returns : goal.returns
unfolding volume_read
returns c = let d = c.before.before.before.before.before in
    let points = d.args.points in record { result_value = c.blend_pairs.ensures.result_value ∙ ap (along first_level points) d.route_at-k.ensures; result_value_2 = c.blend_pairs.ensures.result_value_2 ∙ ap (along second_level points) d.route_at-k.ensures }
