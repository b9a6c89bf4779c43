-- `color_endpoint::mode_9` meets its contract.
use Rattle.color_endpoint.specs.Modes.{mode9}
use Rattle.color_endpoint.proofs.mode_9.Goals as goal

pub returns : goal.returns
unfolding mode9
returns c =
    let d = c.before.before.before.before in
    rw (c.offset_pair.ensures, c.bit_transfer-b.ensures, d.bit_transfer-g.ensures, d.bit_transfer-r.ensures)
