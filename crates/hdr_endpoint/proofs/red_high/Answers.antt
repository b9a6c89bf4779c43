-- `hdr_endpoint::red_high` meets its contract.
use native.Mathlib.Omega.{arith}
use Rattle.hdr_endpoint.specs.Scale.{red_high}
use borrow.Author.Rules.{rules}
use Rattle.hdr_endpoint.proofs.red_high.Goals as goal

pub returns : goal.returns
unfolding red_high
returns c = (rw (c.placed-10.ensures.0, c.placed-9.ensures.0, c.placed-8.ensures.0, c.placed-7.ensures.0, c.placed-6.ensures.0, c.placed-5.ensures.0, c.placed-4.ensures.0, c.placed-3.ensures.0, c.placed-2.ensures.0, c.placed.ensures.0), omega arith)
