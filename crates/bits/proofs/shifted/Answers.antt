use native.Mathlib.Omega.{arith}
use Rattle.bits.specs.Block.{block_number}
use Rattle.bits.proofs.Halves.{shift_high}
use Rattle.bits.proofs.shifted.Goals as goal

pub returns : goal.returns
unfolding block_number
returns c = rw c.word_at-lo.ensures (shift_high c.args.b (omega arith) (omega arith) c.args.p (omega arith))
