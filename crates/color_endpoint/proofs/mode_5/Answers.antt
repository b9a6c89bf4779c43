-- `color_endpoint::mode_5` meets its contract.
use Rattle.color_endpoint.specs.Modes.{mode5}
use Rattle.color_endpoint.proofs.mode_5.Goals as goal

pub returns : goal.returns
unfolding mode5
returns c = rw (c.raised_pair.ensures, c.bit_transfer-a.ensures, c.bit_transfer-l.ensures)
