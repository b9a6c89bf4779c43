use native.Mathlib.Omega.{arith}
use Rattle.bc7_ends.proofs.Places.{colour_bits_lem, colour_end, coloured, end_byte_of}
use Rattle.bc7_ends.proofs.colour_of.Goals as goal

pub widened-requires : goal.widened-requires
widened-requires c =
    let p = c.requires in
    (p.0, p.1, omega arith, colour_bits_lem _ (λ k. 0) _ p.0.row p.0.known 0 0 _ 0 _ p.2 c.wide.ensures.0, coloured _ _ _ p.0.row p.0.known c.wide.ensures.0)

pub returns : goal.returns
returns c =
    let p = c.requires in
    end_byte_of _ p.0.known _ _ _ p.1 (omega arith)
    (colour_end _ _ _ p.0.row p.0.known _ _ _ _ _ p.2 c.wide.ensures.0 c.widened.ensures)
