use mathlib.Core.Path.{◌∙◌}
use Prim.Native.Nat.{◌+◌, ◌*◌, ◌≤◌}
use native.Mathlib.Omega.{arith}
use Rattle.block_buffer.proofs.Painting.{laid_more, laid_none, laid_done}
use Rattle.block_core.specs.inner.Prepared.{point_texel}
use Rattle.block_core.proofs.paint_points.Goals as goal
use Rattle.block_core.proofs.paint_points.Goals.{In-loop-i}

few : (c : In-loop-i) → 4 * c.loop-i.i + 4 ≤ 864
few c = omega (arith, c.requires)

pub loop-i-preserved : goal.loop-i-preserved
unfolding point_texel
loop-i-preserved c =
    let b = c.before.before.before.before in
    let l = b.loop-i in
    λ width texel same e. rw c.put.ensures (laid_more width texel _ l.out l.i e (few b) (c.mix-t.ensures ∙ same l.i (omega arith)) (l.invariant width texel same e))

pub returns : goal.returns
returns c = let l = c.loop-i in
    λ width texel same e. laid_done width texel _ _ c.args.count (omega arith) (l.invariant width texel same e)

pub loop-i-init : goal.loop-i-init
loop-i-init c = λ width texel same e. laid_none _ _ _ (omega arith)

pub offset_bounds-points-i : goal.offset_bounds-points-i
offset_bounds-points-i c = omega (arith, few c)

pub bounds-points-i : goal.bounds-points-i
bounds-points-i c = omega (arith, c.requires)

pub overflow_mul-i : goal.overflow_mul-i
overflow_mul-i c = omega (arith, few c.before.before.before)

pub put-requires : goal.put-requires
put-requires c = few c.before.before.before
