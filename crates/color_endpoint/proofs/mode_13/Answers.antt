-- `color_endpoint::mode_13` meets its contract.
use Rattle.color_endpoint.specs.Modes.{mode13}
use Rattle.color_endpoint.proofs.mode_13.Goals as goal

pub returns : goal.returns
unfolding mode13
returns c =
    let d = c.before.before.before.before in
    let e = d.before.before.before in
    rw (c.offset_pair.ensures, c.bit_transfer-a.ensures, d.bit_transfer-b.ensures, e.bit_transfer-g.ensures, e.bit_transfer-r.ensures)
