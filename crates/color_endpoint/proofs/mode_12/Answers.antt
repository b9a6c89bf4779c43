-- `color_endpoint::mode_12` meets its contract.
use Rattle.color_endpoint.specs.Modes.{mode12}
use Rattle.color_endpoint.proofs.mode_12.Goals as goal

pub returns : goal.returns
unfolding mode12
returns c = c.direct_pair.ensures
