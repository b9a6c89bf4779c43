use mathlib.Core.Path.{◌≡◌, refl}
use native.Mathlib.Omega.{arith}
use Rattle.symbolic_numbers.specs.inner.Numbers.{endpoints_fit}
use Rattle.symbolic_numbers.proofs.endpoints_fit.Goals as goal

pub loop-i-init : goal.loop-i-init
loop-i-init c = refl

pub returns : goal.returns
unfolding endpoints_fit
returns c = let z : c.loop-i.i ≡ 18 = omega arith in rw z at c.loop-i.invariant
