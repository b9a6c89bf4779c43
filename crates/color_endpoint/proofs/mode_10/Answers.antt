-- `color_endpoint::mode_10` meets its contract.
use Rattle.color_endpoint.specs.Modes.{mode10}
use Rattle.color_endpoint.proofs.mode_10.Goals as goal

pub returns : goal.returns
unfolding mode10
returns c = c.scaled_pair.ensures
