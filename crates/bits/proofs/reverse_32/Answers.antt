use native.Mathlib.Omega.{arith}
use Rattle.bits.proofs.Reverse.{reverse_halves}
use Rattle.bits.proofs.reverse_32.Goals as goal

pub returns : goal.returns
returns c = (reverse_halves 16 c.args.x c.reverse_16.ensures.0 c.reverse_16-2.ensures.0, omega arith)
