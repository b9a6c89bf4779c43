-- `endpoint_arithmetic::luminance_pair` meets its contract.
use Rattle.endpoint_arithmetic.specs.Pair.{luminance_pair}
use mathlib.Core.Path.{refl}
use Rattle.endpoint_arithmetic.proofs.luminance_pair.Goals as goal

pub returns : goal.returns
unfolding luminance_pair
returns c = refl
