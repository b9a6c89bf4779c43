use native.Mathlib.Omega.{arith}
use Rattle.bc7_ends.proofs.Places.{indices_is}
use Rattle.bc7_ends.proofs.indices_at.Goals as goal

pub overflow_mul-result-2 : goal.overflow_mul-result-2
overflow_mul-result-2 c =
    let p = c.requires in
    omega (arith, (indices_is _ _ p.0 p.1 _ _ _ _ p.2 c.wide.ensures.0 c.wide-2.ensures.0 c.wide-3.ensures.0).1)

pub overflow_add-result-2 : goal.overflow_add-result-2
overflow_add-result-2 c =
    let p = c.requires in
    omega (arith, (indices_is _ _ p.0 p.1 _ _ _ _ p.2 c.wide.ensures.0 c.wide-2.ensures.0 c.wide-3.ensures.0).1)

pub returns : goal.returns
returns c =
    let p = c.requires in
    indices_is _ _ p.0 p.1 _ _ _ _ p.2 c.wide.ensures.0 c.wide-2.ensures.0 c.wide-3.ensures.0
