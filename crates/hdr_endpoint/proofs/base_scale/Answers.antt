-- `hdr_endpoint::base_scale` meets its contract.
use Rattle.hdr_endpoint.specs.Scale.{base_scale}
use borrow.Author.Rules.{rules}
use Rattle.hdr_endpoint.proofs.base_scale.Goals as goal

pub returns : goal.returns
unfolding base_scale
returns c =
    let x2 = c.before.before in
    rw (c.shifted_ends.ensures, c.major_of.ensures.0, x2.bit_mode.ensures.0, x2.mode_value-m.ensures.0)
