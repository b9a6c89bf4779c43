use native.Mathlib.Omega.{arith}
use Rattle.bits.proofs.Fields.{field_lt}
use Rattle.bits.proofs.Halves.{word_across}
use Rattle.bits.proofs.across.Goals as goal

pub overflow_add-result : goal.overflow_add-result
overflow_add-result c = record { fits = rw (word_across c.args.b (omega arith) (omega arith) c.args.p c.requires) (field_lt _ _ 64) }

pub returns : goal.returns
returns c = word_across c.args.b (omega arith) (omega arith) c.args.p c.requires
