use native.Mathlib.Omega.{arith}
use Rattle.bits.specs.Block.{block_number}
use Rattle.bits.proofs.Halves.{first_low, first_high}
use Rattle.bits.proofs.first_bits.Goals as goal

pub returns-then-w-lt64 : goal.returns-then-w-lt64
unfolding block_number
returns-then-w-lt64 c = rw c.low_bits.ensures (first_low c.args.b (omega arith) (omega arith) c.args.w c.if-w-lt64.true)

pub returns : goal.returns
unfolding block_number
returns c = rw c.low_bits-2.ensures (first_high c.args.b (omega arith) (omega arith) c.args.w c.if-w-lt64.false)
