use mathlib.Core.Path.{refl}
use native.Mathlib.Omega.{arith}
use Rattle.encoding.specs.declared.Encoding.TheVariants.{Quints}
use Rattle.integer_sequence.proofs.Groups.{group_numbers_lem, three_own}
use Rattle.integer_sequence.proofs.reading.quint_group.Goals as goal

pub returns : goal.returns
returns c =
    let d = c.before.before.before in
    let a = d.args in
    let own = three_own a.b a.g refl refl c.cut.ensures.0 c.cut-2.ensures.0 c.cut-3.ensures.0 in
    omega (arith, d.raised.ensures.0, group_numbers_lem Quints a.b a.g d.quint_code.ensures.0 d.quint_digits.ensures.0 own)
