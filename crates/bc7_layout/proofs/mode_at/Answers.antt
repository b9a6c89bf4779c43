use native.Mathlib.Omega.{arith}
use borrow.Author.Rules.{rules}
use Rattle.bc7_layout.proofs.Packing.{mode_counted, mode_small, byte_lt}
use Rattle.bc7_layout.proofs.mode_at.Goals as goal

pub overflow_add-result : goal.overflow_add-result
overflow_add-result c = omega (arith, byte_lt _ _ c.field_at.ensures)

pub overflow_cast-result : goal.overflow_cast-result
overflow_cast-result c = omega (arith, mode_small _ _ c.field_at.ensures)

pub returns : goal.returns
returns c = (mode_counted _ _ c.field_at.ensures, mode_small _ _ c.field_at.ensures)
