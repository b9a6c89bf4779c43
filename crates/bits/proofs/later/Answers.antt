use native.Mathlib.Omega.{arith}
use Rattle.bits.specs.Block.{block_number}
use Rattle.bits.proofs.Halves.{shift_low}
use Rattle.bits.proofs.later.Goals as goal

pub returns : goal.returns
unfolding block_number
returns c = rw c.across-word.ensures (shift_low c.args.b (omega arith) (omega arith) c.args.p)
