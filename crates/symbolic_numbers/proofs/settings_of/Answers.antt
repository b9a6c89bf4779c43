use Rattle.symbolic_numbers.proofs.Laws.{settings_same}
use native.Mathlib.Omega.{arith}
use Rattle.symbolic_numbers.proofs.settings_of.Goals as goal

pub returns : goal.returns
returns c =
    let w = c.before.before.before in
    settings_same w.args.s _ _ _ _ w.wide.ensures c.wide-2.ensures c.wide-3.ensures c.wide-4.ensures

pub overflow_cast-result-7 : goal.overflow_cast-result-7
overflow_cast-result-7 c = omega (arith, c.struct_known-7-1.given)

pub overflow_cast-result-8 : goal.overflow_cast-result-8
overflow_cast-result-8 c = omega (arith, c.struct_known-8-1.given)
