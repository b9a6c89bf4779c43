use native.Mathlib.Omega.{arith}
use Rattle.block_fault.proofs.Laws.{narrow}
use Rattle.void_extent.specs.Layout.{colour_at}
use Rattle.symbolic_reader.proofs.colour.Goals as goal

pub overflow_cast-result : goal.overflow_cast-result
overflow_cast-result c = omega (arith, (narrow _ _ 16 16 (omega arith) (omega arith) c.field_at.ensures).below)

pub returns : goal.returns
unfolding colour_at
returns c = c.field_at.ensures
