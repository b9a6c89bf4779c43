-- `hdr_endpoint::scale_bits` meets its contract.
use native.Mathlib.Omega.{arith}
use Rattle.hdr_endpoint.specs.Scale.{scale_bits}
use borrow.Author.Rules.{rules}
use Rattle.hdr_endpoint.proofs.scale_bits.Goals as goal

pub returns : goal.returns
unfolding scale_bits
returns c = (rw (c.placed-3.ensures.0, c.placed-2.ensures.0, c.placed.ensures.0, c.wide.ensures.0), omega arith)
