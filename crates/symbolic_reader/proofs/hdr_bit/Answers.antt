use native.Mathlib.Omega.{arith}
use Rattle.block_fault.proofs.Laws.{narrow}
use Rattle.symbolic_reader.proofs.hdr_bit.Goals as goal

pub overflow_cast-result : goal.overflow_cast-result
overflow_cast-result c = omega (arith, (narrow _ _ 1 8 (omega arith) (omega arith) c.field_at.ensures).below)

pub returns : goal.returns
returns c = c.field_at.ensures
