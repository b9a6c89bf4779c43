-- `hdr_endpoint::mode_ends` meets its contract.
use native.Mathlib.Nat.{add-zero}
use Rattle.hdr_endpoint.specs.Scale.{mode_ends}
use borrow.Author.Rules.{rules}
use Rattle.hdr_endpoint.proofs.mode_ends.Goals as goal

pub returns : goal.returns
unfolding mode_ends
returns c = rw (c.swizzled_ends.ensures, c.minor_of-b.ensures.0, c.minor_of-g.ensures.0, add-zero _)
