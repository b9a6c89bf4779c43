use native.Mathlib.Omega.{arith}
use Rattle.symbolic_writer.proofs.weights_from.Goals as goal

pub returns : goal.returns
returns c = (omega (arith, c.bits_left.ensures, c.clipped_weight_bits.ensures.0), omega (arith, c.bits_left.ensures))
