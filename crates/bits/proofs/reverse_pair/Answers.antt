use native.Mathlib.Omega.{arith}
use Rattle.bits.proofs.Reverse.{reverse_two}
use Rattle.bits.proofs.reverse_pair.Goals as goal

pub returns : goal.returns
returns c = (reverse_two c.args.x c.requires, omega arith)
