use native.Mathlib.Omega.{arith}
use Rattle.encoding.specs.Encoding.{sequence_bits}
use Rattle.integer_sequence.proofs.Groups.{narrow_bits}
use Rattle.integer_sequence.proofs.group.OneNumberGroup.bits.Goals as goal

pub returns : goal.returns
unfolding sequence_bits
returns c = (omega arith, omega (arith, narrow_bits _ c.requires))
