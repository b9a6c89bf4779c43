use mathlib.Core.Path.{refl}
use native.Mathlib.Omega.{arith}
use Rattle.laws.proofs.Filling.{filling_start, filling_more, filling_done}
use Rattle.symbolic_numbers.specs.inner.Numbers.{clipped_numbers}
use Rattle.symbolic_numbers.proofs.clipped_numbers.Goals as goal

pub loop-i-init : goal.loop-i-init
loop-i-init c = filling_start _ 0 107 _ refl

pub loop-i-preserved : goal.loop-i-preserved
loop-i-preserved c = filling_more _ 0 107 _ _ _ (omega arith) c.loop-i.invariant c.clipped.ensures

pub returns : goal.returns
unfolding clipped_numbers
returns c = filling_done _ 0 107 _ _ (omega arith) c.loop-i.invariant
