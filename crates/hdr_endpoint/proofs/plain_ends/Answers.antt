-- `hdr_endpoint::plain_ends` meets its contract.
use mathlib.Core.Path.{refl}
use Rattle.hdr_endpoint.specs.Direct.{plain_ends}
use borrow.Author.Rules.{rules}
use Rattle.hdr_endpoint.proofs.plain_ends.Goals as goal

pub returns : goal.returns
unfolding plain_ends
returns c = refl
