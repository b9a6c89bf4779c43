-- `hdr_endpoint::grey` meets its contract.
use mathlib.Core.Path.{refl}
use Rattle.hdr_endpoint.specs.Luminance.{grey_pair}
use Rattle.hdr_endpoint.proofs.grey.Goals as goal

pub returns : goal.returns
unfolding grey_pair
returns c = refl
