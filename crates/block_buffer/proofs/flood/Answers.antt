use mathlib.Core.Path.{refl}
use Prim.Native.Nat.{◌+◌, ◌*◌, ◌≤◌}
use native.Mathlib.Omega.{arith}
use Rattle.block_buffer.proofs.Painting.{laid_more, laid_none, laid_done}
use Rattle.block_buffer.proofs.flood.Goals as goal
use Rattle.block_buffer.proofs.flood.Goals.{In-loop-i}

few : (c : In-loop-i) → 4 * c.loop-i.i + 4 ≤ 864
few c = omega (arith, c.requires)

pub loop-i-init : goal.loop-i-init
loop-i-init c = λ width e. laid_none _ _ _ (omega arith)

pub loop-i-preserved : goal.loop-i-preserved
loop-i-preserved c = let l = c.loop-i in
    λ width e. rw c.put.ensures (laid_more width (λ x y. c.args.t) _ l.out l.i e (few c.before.before) refl (l.invariant width e))

pub returns : goal.returns
returns c = let l = c.loop-i in
    λ width e. laid_done width _ _ _ c.args.count (omega arith) (l.invariant width e)

pub put-requires : goal.put-requires
put-requires c = few c.before
