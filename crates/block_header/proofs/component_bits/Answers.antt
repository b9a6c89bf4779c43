use mathlib.Core.Path.{refl}
use native.Mathlib.Omega.{arith}
use Rattle.block_header.specs.Counts.{component_bits}
use Rattle.block_header.proofs.component_bits.Goals as goal

pub returns-then-planes-eq0 : goal.returns-then-planes-eq0
unfolding component_bits
returns-then-planes-eq0 c = rw c.if-planes-eq0.true (refl, omega arith)

pub returns : goal.returns
unfolding component_bits
returns c = rw c.wide.ensures.0 (refl, omega (arith, c.wide.ensures))
