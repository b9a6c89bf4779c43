-- `color_endpoint::low_luminance` meets its contract.
use Rattle.color_endpoint.specs.Modes.{low_luminance}
use mathlib.Core.Path.{refl}
use Rattle.color_endpoint.proofs.low_luminance.Goals as goal

pub returns : goal.returns
unfolding low_luminance
returns c = refl
