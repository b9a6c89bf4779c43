-- `hdr_endpoint::shifted_ends` meets its contract.
use Rattle.hdr_endpoint.specs.Scale.{red_bits, shifted_ends}
use borrow.Author.Rules.{rules}
use Rattle.hdr_endpoint.proofs.shifted_ends.Goals as goal

pub returns : goal.returns
unfolding shifted_ends red_bits
returns c =
    let x4 = c.before.before.before.before in
    let x8 = x4.before.before.before.before in
    rw (
      c.mode_ends.ensures,
      c.shifted-scale.ensures.0,
      c.scale_bits.ensures.0,
      c.shifted-blue.ensures.0,
      x4.minor_bits-2.ensures.0,
      x4.shifted-green.ensures.0,
      x4.minor_bits.ensures.0,
      x4.shifted-red.ensures.0,
      x8.red_high.ensures.0,
      x8.wide.ensures.0,
      x8.scale_shift-k.ensures.0,
    )
