-- `half_pair::mode_11` meets its contract.
use Rattle.half_pair.specs.Pair.{mode11}
use Rattle.half_pair.proofs.mode_11.Goals as goal

pub returns : goal.returns
unfolding mode11
returns c = (c.rgb.ensures.0, c.rgb.ensures.1)
