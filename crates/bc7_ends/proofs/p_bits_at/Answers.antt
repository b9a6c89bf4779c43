use native.Mathlib.Omega.{arith}
use Rattle.bc7_ends.proofs.Places.{p_bits_is}
use Rattle.bc7_ends.proofs.p_bits_at.Goals as goal

pub overflow_mul-result-3 : goal.overflow_mul-result-3
overflow_mul-result-3 c =
    let p = c.requires.row_value in
    omega (arith, (p_bits_is _ _ p.0 p.1 _ _ _ _ p.2 p.3 c.wide.ensures.0 c.wide-2.ensures.0).1)

pub overflow_add-result-2 : goal.overflow_add-result-2
overflow_add-result-2 c =
    let p = c.requires.row_value in
    omega (arith, (p_bits_is _ _ p.0 p.1 _ _ _ _ p.2 p.3 c.wide.ensures.0 c.wide-2.ensures.0).1)

pub returns : goal.returns
returns c =
    let p = c.requires.row_value in
    p_bits_is _ _ p.0 p.1 _ _ _ _ p.2 p.3 c.wide.ensures.0 c.wide-2.ensures.0
