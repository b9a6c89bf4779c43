-- `hdr_endpoint::a_high` meets its contract.
use native.Mathlib.Omega.{arith}
use Rattle.hdr_endpoint.specs.Direct.{a_high}
use borrow.Author.Rules.{rules}
use Rattle.hdr_endpoint.proofs.a_high.Goals as goal

pub returns : goal.returns
unfolding a_high
returns c = (rw (c.placed-6.ensures.0, c.placed-5.ensures.0, c.placed-4.ensures.0, c.placed-3.ensures.0, c.placed-2.ensures.0, c.placed.ensures.0), omega arith)
