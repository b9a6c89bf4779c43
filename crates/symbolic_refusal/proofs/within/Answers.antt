use mathlib.Core.Path.{◌≡◌, refl}
use native.Mathlib.Numerals.{add-one}
use native.Mathlib.Omega.{arith}
use Rattle.symbolic_block.specs.Refusals.{within}
use Rattle.symbolic_refusal.proofs.within.Goals as goal

pub loop-i-init : goal.loop-i-init
unfolding within
loop-i-init g c = refl

pub loop-i-preserved : goal.loop-i-preserved
unfolding within
loop-i-preserved g c = rw (c.most_by.ensures, c.loop-i.invariant, add-one)

pub returns : goal.returns
returns g c = let z : c.loop-i.i ≡ g.row.N = omega arith in rw z at c.loop-i.invariant
