-- `endpoint_arithmetic::zero_pair` meets its contract.
use Rattle.endpoint_arithmetic.specs.Pair.{zero_pair}
use mathlib.Core.Path.{refl}
use Rattle.endpoint_arithmetic.proofs.zero_pair.Goals as goal

pub returns : goal.returns
unfolding zero_pair
returns c = refl
