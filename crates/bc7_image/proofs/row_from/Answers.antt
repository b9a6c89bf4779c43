use mathlib.Core.Path.{refl}
use native.Mathlib.Omega.{arith}
use Rattle.laws.proofs.Filling.{filling_start, filling_more, filling_done}
use Rattle.bc7_image.proofs.row_from.Goals as goal

pub loop-i-preserved : goal.loop-i-preserved
loop-i-preserved c = filling_more _ 0 16 _ _ _ (omega arith) c.loop-i.invariant refl

pub returns : goal.returns
returns c = filling_done _ 0 16 _ _ (omega arith) c.loop-i.invariant

pub loop-i-init : goal.loop-i-init
loop-i-init c = filling_start _ 0 16 _ refl
