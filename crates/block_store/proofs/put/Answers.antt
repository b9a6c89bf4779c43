use native.Mathlib.Omega.{arith}
use Rattle.block_store.proofs.Laws.{put_start, put_more}
use Rattle.block_store.proofs.put.Goals as goal

pub loop-k-init : goal.loop-k-init
loop-k-init c = put_start _ _ _

pub bounds-out-at : goal.bounds-out-at
bounds-out-at c = omega (arith, c.requires, c.loop-k.invariant.size)

pub loop-k-preserved : goal.loop-k-preserved
loop-k-preserved c = put_more _ _ _ _ _ (omega (arith, c.requires)) c.loop-k.invariant
