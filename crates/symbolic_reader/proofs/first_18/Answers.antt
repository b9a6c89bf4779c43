use mathlib.Core.Path.{refl}
use native.Mathlib.Omega.{arith}
use Rattle.laws.proofs.Filling.{filling_start, filling_more, filling_done}
use Rattle.integer_sequence.specs.Reading.{stored}
use Rattle.symbolic_reader.proofs.first_18.Goals as goal

pub loop-i-init : goal.loop-i-init
loop-i-init c = filling_start _ (stored 0) 18 _ refl

pub loop-i-preserved : goal.loop-i-preserved
loop-i-preserved c = filling_more _ (stored 0) 18 _ _ _ (omega arith) c.loop-i.invariant refl

pub returns : goal.returns
returns c = filling_done _ (stored 0) 18 _ _ (omega arith) c.loop-i.invariant
