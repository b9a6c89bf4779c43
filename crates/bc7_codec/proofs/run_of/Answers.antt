use mathlib.Core.Path.{refl}
use native.Mathlib.Omega.{arith}
use lib.ListN.{length-replicate}
use Rattle.laws.proofs.Filling.{filling_start, filling_more, filling_done}
use Rattle.bc7_codec.proofs.run_of.Goals as goal

pub loop-j-init : goal.loop-j-init
loop-j-init g c = filling_start _ 0 _ _ (length-replicate _ _)

pub loop-j-preserved : goal.loop-j-preserved
loop-j-preserved g c = filling_more _ 0 _ _ _ _ (omega arith) c.loop-j.invariant refl

pub returns : goal.returns
returns g c = filling_done _ 0 _ _ _ (omega arith) c.loop-j.invariant
