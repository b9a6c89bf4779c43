-- `hdr_endpoint::fields_shifted` meets its contract.
use Rattle.hdr_endpoint.specs.Direct.{direct_shift, fields_shifted}
use borrow.Author.Rules.{rules}
use Rattle.hdr_endpoint.proofs.fields_shifted.Goals as goal

pub returns : goal.returns
unfolding fields_shifted direct_shift
returns c =
    let x4 = c.before.before.before.before in
    let x8 = x4.before.before.before.before in
    let x12 = x8.before.before.before.before in
    rw (
      c.field_ends.ensures,
      c.extended-d1.ensures.0,
      c.extended-d0.ensures.0,
      c.shifted-c.ensures.0,
      x4.c_bits.ensures.0,
      x4.shifted-b1.ensures.0,
      x4.b_bits-2.ensures.0,
      x4.shifted-b0.ensures.0,
      x8.b_bits.ensures.0,
      x8.shifted-a.ensures.0,
      x8.a_bits.ensures.0,
      x8.d_bits-n.ensures.0,
      x12.wide.ensures.0,
    )
