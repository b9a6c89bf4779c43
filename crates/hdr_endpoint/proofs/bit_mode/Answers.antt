-- `hdr_endpoint::bit_mode` meets its contract.
use native.Mathlib.Omega.{arith}
use mathlib.Core.Path.{refl}
use borrow.Author.Tests.{lt-ltb, le-ltb, eq-eqb, ne_eqb}
use Rattle.hdr_endpoint.specs.Scale.{bit_mode}
use Rattle.hdr_endpoint.proofs.bit_mode.Goals as goal

pub returns-then-m-lt12 : goal.returns-then-m-lt12
unfolding bit_mode
returns-then-m-lt12 c = rw (lt-ltb _ 12 c.if-m-lt12.true) (refl, omega arith)

pub returns-then-m-eq15 : goal.returns-then-m-eq15
unfolding bit_mode
returns-then-m-eq15 c = rw (le-ltb _ 12 c.if-m-lt12.false, eq-eqb _ 15 c.if-m-eq15.true) (refl, omega arith)

pub returns-else-m-eq15 : goal.returns-else-m-eq15
unfolding bit_mode
returns-else-m-eq15 c = rw (le-ltb _ 12 c.if-m-lt12.false, ne_eqb _ 15 c.if-m-eq15.false) (refl, omega arith)
