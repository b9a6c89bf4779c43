use mathlib.Core.Path.{refl}
use native.Mathlib.Omega.{arith}
use Rattle.std.proofs.lemmas.List.{length-replicate}
use Rattle.laws.proofs.Filling.{filling_start, filling_more, filling_done}
use Rattle.integer_sequence.specs.Reading.{stored}
use Rattle.symbolic_numbers.proofs.stored_from.Goals as goal

pub loop-i-init : goal.loop-i-init
loop-i-init g c = filling_start _ (stored 0) g.row.N _ (length-replicate g.row.N (stored 0))

pub loop-i-preserved : goal.loop-i-preserved
loop-i-preserved g c = filling_more _ (stored 0) g.row.N _ _ _ (omega arith) c.loop-i.invariant refl

pub returns : goal.returns
returns g c = filling_done _ (stored 0) g.row.N _ _ (omega arith) c.loop-i.invariant
