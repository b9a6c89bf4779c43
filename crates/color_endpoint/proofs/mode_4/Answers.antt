-- `color_endpoint::mode_4` meets its contract.
use Rattle.color_endpoint.specs.Modes.{mode4}
use Rattle.color_endpoint.proofs.mode_4.Goals as goal

pub returns : goal.returns
unfolding mode4
returns c = c.luminance_pair.ensures
