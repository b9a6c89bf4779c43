use mathlib.Core.Path.{refl}
use native.Mathlib.Omega.{arith}
use Rattle.laws.proofs.Filling.{filling_start, filling_more, filling_done}
use Rattle.bc7_codec.proofs.fields_of.Goals as goal

pub loop-k-init : goal.loop-k-init
loop-k-init c = filling_start _ 0 60 _ refl

pub value_in-requires : goal.value_in-requires
value_in-requires c = (c.requires, omega arith)

pub loop-k-preserved : goal.loop-k-preserved
loop-k-preserved c = filling_more _ 0 60 _ _ _ (omega arith) c.loop-k.invariant c.value_in.ensures

pub returns : goal.returns
returns c = filling_done _ 0 60 _ _ (omega arith) c.loop-k.invariant
