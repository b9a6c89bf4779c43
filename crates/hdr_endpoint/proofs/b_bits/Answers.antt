-- `hdr_endpoint::b_bits` meets its contract.
use native.Mathlib.Omega.{arith}
use Rattle.hdr_endpoint.specs.Direct.{b_bits}
use borrow.Author.Rules.{rules}
use Rattle.hdr_endpoint.proofs.b_bits.Goals as goal

pub returns : goal.returns
unfolding b_bits
returns c = (rw (c.placed-2.ensures.0, c.placed.ensures.0, c.wide.ensures.0), omega arith)
