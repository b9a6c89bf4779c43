use mathlib.Core.Path.{refl}
use native.Mathlib.Nat.{mod-lt, lt_of_lt_of_le}
use native.Mathlib.Omega.{arith}
use lib.Pow.{pow_pos, pow_mono}
use Rattle.bits.specs.Field.{field}
use Rattle.bits.proofs.Halves.{one_shl}
use Rattle.integer_sequence.proofs.reading.cut.Goals as goal

pub nonzero_rem-result : goal.nonzero_rem-result
nonzero_rem-result c = rw (one_shl c.args.w (omega arith)) (pow_pos c.args.w)

pub returns : goal.returns
unfolding field
returns c =
    rw (one_shl c.args.w (omega arith))
    (refl, lt_of_lt_of_le (mod-lt _ (pow_pos c.args.w)) (pow_mono {i = c.args.w} {j = 8} (omega arith)))
