use native.Mathlib.Omega.{arith}
use lib.Pow.{pow_pos}
use Rattle.bits.proofs.Halves.{one_shl, low_is, low_whole}
use Rattle.bits.proofs.low_bits.Goals as goal

pub nonzero_rem-result : goal.nonzero_rem-result
nonzero_rem-result c = rw (one_shl c.args.w c.if-w-lt64.true) (pow_pos c.args.w)

pub returns-then-w-lt64 : goal.returns-then-w-lt64
returns-then-w-lt64 c = rw (one_shl c.args.w c.if-w-lt64.true) (low_is c.args.x c.args.w)

pub returns-else-w-lt64 : goal.returns-else-w-lt64
returns-else-w-lt64 c = low_whole c.args.x c.args.w (omega arith) c.if-w-lt64.false
