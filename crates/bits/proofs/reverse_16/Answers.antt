use native.Mathlib.Omega.{arith}
use Rattle.bits.proofs.Reverse.{reverse_halves}
use Rattle.bits.proofs.reverse_16.Goals as goal

pub returns : goal.returns
returns c = (reverse_halves 8 c.args.x c.reverse_byte.ensures.0 c.reverse_byte-2.ensures.0, omega arith)
