use native.Mathlib.Omega.{arith}
use Rattle.encoding.specs.Encoding.{sequence_bits}
use Rattle.integer_sequence.proofs.Groups.{narrow_quints}
use Rattle.integer_sequence.proofs.group.ThreeQuintsGroup.bits.Goals as goal

pub overflow_mul-result : goal.overflow_mul-result
overflow_mul-result c = omega (arith, narrow_quints _ c.requires)

pub overflow_add-result : goal.overflow_add-result
overflow_add-result c = omega (arith, narrow_quints _ c.requires)

pub returns : goal.returns
unfolding sequence_bits
returns c = (omega arith, omega (arith, narrow_quints _ c.requires))
