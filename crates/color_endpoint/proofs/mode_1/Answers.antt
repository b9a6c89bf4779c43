-- `color_endpoint::mode_1` meets its contract.
use Rattle.color_endpoint.specs.Modes.{mode1}
use Rattle.color_endpoint.proofs.mode_1.Goals as goal

pub returns : goal.returns
unfolding mode1
returns c = rw (c.luminance_pair.ensures, c.high_luminance-l1.ensures, c.low_luminance-l0.ensures)
