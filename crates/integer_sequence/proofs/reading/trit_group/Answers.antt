use mathlib.Core.Path.{refl}
use native.Mathlib.Omega.{arith}
use Rattle.encoding.specs.declared.Encoding.TheVariants.{Trits}
use Rattle.integer_sequence.proofs.Groups.{group_numbers_lem, five_own}
use Rattle.integer_sequence.proofs.reading.trit_group.Goals as goal

pub returns : goal.returns
returns c =
    let d = c.before.before.before.before.before in
    let a = d.args in
    let own = five_own a.b a.g refl refl refl refl c.cut.ensures.0 c.cut-2.ensures.0 c.cut-3.ensures.0 c.cut-4.ensures.0 c.cut-5.ensures.0 in
    omega (arith, d.raised.ensures.0, group_numbers_lem Trits a.b a.g d.trit_code.ensures d.trit_digits.ensures.0 own)
