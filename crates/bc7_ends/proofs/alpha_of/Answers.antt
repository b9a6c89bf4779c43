use native.Mathlib.Omega.{arith}
use Rattle.bc7_ends.proofs.Places.{alpha_bits_lem, alpha_end, opaque, end_byte_of}
use Rattle.bc7_ends.proofs.alpha_of.Goals as goal

pub returns-then-row-eq0 : goal.returns-then-row-eq0
returns-then-row-eq0 c =
    let p = c.requires in
    (opaque _ _ _ p.0.row p.0.known _ _ 0 0 c.if-row-eq0.true, omega arith)

pub widened-requires : goal.widened-requires
widened-requires c =
    let p = c.requires in
    let z = c.if-row-eq0.false in
    let e = c.wide.ensures.0 in
    (p.0, p.1, omega arith, alpha_bits_lem _ (λ k. 0) _ p.0.row p.0.known 0 0 _ 0 e, omega (arith, z))

pub returns : goal.returns
returns c =
    let p = c.requires in
    end_byte_of _ p.0.known _ _ _ p.1 (omega arith)
    (alpha_end _ _ _ p.0.row p.0.known _ _ _ _ c.if-row-eq0.false c.wide.ensures.0 c.widened.ensures)
