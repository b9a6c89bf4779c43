use lib.ListN.{get_or}
use mathlib.Core.Path.{◌∙◌}
use Rattle.footprint.specs.Footprint.{is_volume}
use Rattle.void_extent.proofs.Extents.{six_extents}
use Rattle.symbolic_refusal.proofs.bad_extents.Goals as goal

pub returns : goal.returns
returns c =
    let v = c.before in
    let l6 = v.before in
    let l5 = l6.before in
    let l4 = l5.before in
    let l3 = l4.before in
    let l2 = l3.before in
    let l1 = l2.before in
    let a = l1.args in
    c.bad_extents.ensures
    ∙ rw v.is_volume.ensures
    (six_extents (is_volume a.fp) (λ k. get_or a.e k 0) l1.long-s0.ensures l2.long-s1.ensures l3.long-t0.ensures l4.long-t1.ensures l5.long-r0.ensures l6.long-r1.ensures)
