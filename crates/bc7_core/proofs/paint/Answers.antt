use Prim.Native.Nat.{◌<◌}
use native.Mathlib.Omega.{arith}
use Rattle.laws.proofs.Filling.{filled_none}
use Rattle.bc7_core.proofs.Painting.{put_more, put_length, all_put}
use Rattle.bc7_core.proofs.paint.Goals as goal

-- src/lib.rt:220:5
pub loop-i-init : goal.loop-i-init
loop-i-init c = (c.requires.framed.1, filled_none _ 0 _)

-- src/lib.rt:224:13
pub sum_at-requires : goal.sum_at-requires
sum_at-requires c = let p = c.requires in
    let l : c.loop-i.i < 16 = omega arith in record { framed = (p.framed.0, l); filled = p.filled; colour_value = (p.factors.each _ l, p.factors.small _ l); alpha_value = (p.factors_2.each _ l, p.factors_2.small _ l) }

-- src/lib.rt:205:1
pub returns : goal.returns
returns c = let i = c.loop-i.invariant in all_put _ _ _ _ (omega arith) i.0 i.1

-- src/lib.rt:220:5
pub loop-i-preserved : goal.loop-i-preserved
loop-i-preserved c =
    let b = c in
    let i = b.loop-i.invariant in
    let l : b.loop-i.i < 16 = omega arith in
    let e = c.put.ensures in (
      put_length b.loop-i.i c.sum_at.result b.loop-i.out c.put.new.out e i.0,
      rw e (put_more _ _ _ _ _ l i.0 c.sum_at.ensures i.1),
    )
