use mathlib.Core.Path.{refl, ◌∙◌}
use native.Mathlib.Omega.{arith}
use Rattle.laws.proofs.Filling.{filling_start, filling_more, filling_done}
use Rattle.byte_list.proofs.Tables.{tab_self}
use Rattle.clip_numbers.proofs.put_numbers.Goals as goal

pub loop-i-init : goal.loop-i-init
loop-i-init c = filling_start _ 0 26 _ c.requires

pub loop-i-preserved : goal.loop-i-preserved
loop-i-preserved c = filling_more _ 0 26 _ _ _ (omega arith) c.loop-i.invariant refl

pub returns : goal.returns
returns c = filling_done _ 0 26 _ _ (omega arith) c.loop-i.invariant ∙ tab_self _ 26 c.well_formed.0.1.0.1
