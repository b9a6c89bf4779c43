use native.Mathlib.Omega.{arith}
use Rattle.bits.proofs.Reverse.{reverse_halves}
use Rattle.bits.proofs.reverse_byte.Goals as goal

pub returns : goal.returns
returns c = (reverse_halves 4 c.args.x c.reverse_nibble.ensures.0 c.reverse_nibble-2.ensures.0, omega arith)
