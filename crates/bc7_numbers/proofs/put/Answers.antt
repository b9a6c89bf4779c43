use mathlib.Core.Path.{sym, ◌∙◌}
use native.Mathlib.Omega.{arith}
use Rattle.laws.proofs.Filling.{filling_start, filling_more, filling_done}
use Rattle.bc7_numbers.proofs.put.Goals as goal

pub loop-k-init : goal.loop-k-init
loop-k-init c = filling_start _ 0 60 _ c.requires

pub bounds-numbers-k : goal.bounds-numbers-k
bounds-numbers-k c = omega (arith, c.loop-k.invariant.size)

pub loop-k-preserved : goal.loop-k-preserved
loop-k-preserved c = filling_more _ 0 60 _ _ _ (omega arith) c.loop-k.invariant c.number_in.ensures

pub shape_of-numbers : goal.shape_of-numbers
shape_of-numbers c = c.loop-k.invariant.size ∙ sym c.requires

pub returns : goal.returns
returns c = filling_done _ 0 60 _ _ (omega arith) c.loop-k.invariant
