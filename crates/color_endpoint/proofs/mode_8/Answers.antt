-- `color_endpoint::mode_8` meets its contract.
use Rattle.color_endpoint.specs.Modes.{mode8}
use Rattle.color_endpoint.proofs.mode_8.Goals as goal

pub returns : goal.returns
unfolding mode8
returns c = c.direct_pair.ensures
