-- `color_endpoint::mode_6` meets its contract.
use Rattle.color_endpoint.specs.Modes.{mode6}
use Rattle.color_endpoint.proofs.mode_6.Goals as goal

pub returns : goal.returns
unfolding mode6
returns c = c.scaled_pair.ensures
