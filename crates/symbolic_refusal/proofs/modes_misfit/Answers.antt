use mathlib.Core.Path.{◌≡◌, refl}
use native.Mathlib.Numerals.{add-one}
use Rattle.symbolic_block.specs.Refusals.{modes_misfit}
use native.Mathlib.Omega.{arith}
use Rattle.symbolic_refusal.proofs.modes_misfit.Goals as goal

pub loop-p-init : goal.loop-p-init
loop-p-init c = refl

pub loop-p-preserved : goal.loop-p-preserved
loop-p-preserved c = rw (c.misfit-bad.ensures, c.mode_at-in-loop-p.ensures, c.mode_at.ensures, c.loop-p.invariant, add-one)

pub returns : goal.returns
unfolding modes_misfit
returns c = let z : c.loop-p.p ≡ c.args.h.partitions = omega arith in rw (c.loop-p.invariant, z)
