-- `hdr_endpoint::minor_of` meets its contract.
use native.Mathlib.Omega.{arith}
use mathlib.Core.Path.{refl, ap}
use lib.IntN.{pos}
use native.Mathlib.Nat.{add-zero}
use borrow.Author.Tests.{eq-eqb, ne_eqb}
use Rattle.hdr_endpoint.specs.Scale.{minor_of}
use Rattle.hdr_endpoint.proofs.minor_of.Goals as goal

pub returns-then-mode-eq5 : goal.returns-then-mode-eq5
unfolding minor_of
returns-then-mode-eq5 c = rw (eq-eqb _ 5 c.if-mode-eq5.true) (ap pos (add-zero _), omega arith, omega arith)

pub returns-else-mode-eq5 : goal.returns-else-mode-eq5
unfolding minor_of
returns-else-mode-eq5 c = rw (ne_eqb _ 5 c.if-mode-eq5.false) (refl, omega arith, omega arith)
