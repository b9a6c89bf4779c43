-- `hdr_endpoint::bit` meets its contract.
use native.Mathlib.Omega.{arith}
use mathlib.Core.Path.{refl}
use Rattle.hdr_endpoint.specs.Parts.{bit_of}
use borrow.Author.Rules.{rules}
use Rattle.hdr_endpoint.proofs.bit.Goals as goal

pub returns : goal.returns
unfolding bit_of
returns c = (rw c.wide.ensures.0, omega arith)
