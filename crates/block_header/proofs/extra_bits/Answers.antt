use mathlib.Core.Path.{refl}
use native.Mathlib.Omega.{arith}
use borrow.Author.Tests.{eq-eqb, ne_eqb}
use Rattle.block_header.specs.Counts.{extra_bits}
use Rattle.block_header.proofs.extra_bits.Goals as goal

pub returns-then-selector-eq0 : goal.returns-then-selector-eq0
unfolding extra_bits
returns-then-selector-eq0 c = rw (eq-eqb _ _ c.if-selector-eq0.true) (refl, omega arith)

pub returns : goal.returns
unfolding extra_bits
returns c = rw (ne_eqb _ _ c.if-selector-eq0.false, c.bits_left.ensures, c.wide.ensures.0) (refl, omega (arith, c.wide.ensures))
