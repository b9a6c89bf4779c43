use mathlib.Core.Path.{refl}
use native.Mathlib.Nat.{mod-lt}
use native.Mathlib.Omega.{arith}
use lib.Pow.{pow_pos}
use Rattle.bits.proofs.Halves.{one_shl}
use Rattle.sequence_words.proofs.low.Goals as goal

pub nonzero_rem-result : goal.nonzero_rem-result
nonzero_rem-result c = rw (one_shl c.args.w (omega arith)) (pow_pos c.args.w)

pub returns : goal.returns
returns c = rw (one_shl c.args.w (omega arith)) (refl, mod-lt c.args.x (pow_pos c.args.w))
