use Rattle.std.proofs.Common.{refl, arith}
use Rattle.laws.proofs.Filling.{filling_start, filling_more, filling_done}
use Rattle.clip_numbers.specs.Numbers.{held_of}
use Rattle.clip_numbers.proofs.held_of.Goals as goal

pub loop-k-init : goal.loop-k-init
loop-k-init c = filling_start _ 0 16 _ refl

pub loop-k-preserved : goal.loop-k-preserved
loop-k-preserved c = filling_more _ 0 16 _ _ _ (omega arith) c.loop-k.invariant c.low.ensures

pub returns : goal.returns
unfolding held_of
returns c = filling_done _ 0 16 _ _ (omega arith) c.loop-k.invariant
