use native.Mathlib.Omega.{arith}
use Rattle.bits.proofs.Reverse.{reverse_halves}
use Rattle.bits.proofs.reverse_nibble.Goals as goal

pub returns : goal.returns
returns c = (reverse_halves 2 c.args.x c.reverse_pair.ensures.0 c.reverse_pair-2.ensures.0, omega arith)
