-- `color_endpoint::mode_0` meets its contract.
use Rattle.color_endpoint.specs.Modes.{mode0}
use Rattle.color_endpoint.proofs.mode_0.Goals as goal

pub returns : goal.returns
unfolding mode0
returns c = c.luminance_pair.ensures
