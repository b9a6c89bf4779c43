-- `hdr_endpoint::a_bits` meets its contract.
use native.Mathlib.Omega.{arith}
use Rattle.hdr_endpoint.specs.Direct.{a_bits}
use borrow.Author.Rules.{rules}
use Rattle.hdr_endpoint.proofs.a_bits.Goals as goal

pub returns : goal.returns
unfolding a_bits
returns c = (rw (c.a_high.ensures.0, c.wide-2.ensures.0, c.wide.ensures.0), omega arith)
