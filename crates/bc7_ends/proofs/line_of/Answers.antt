use native.Mathlib.Omega.{arith}
use Rattle.bc7_layout.proofs.Tables.{subsets_most}
use Rattle.bc7_ends.proofs.Mixing.{line_is}
use Rattle.bc7_ends.proofs.line_of.Goals as goal

pub overflow_cast-x : goal.overflow_cast-x
overflow_cast-x c = let p = c.requires in omega (arith, subsets_most _ p.0.known)

pub overflow_mul-x : goal.overflow_mul-x
overflow_mul-x c = let p = c.requires in omega (arith, subsets_most _ p.0.known)

pub overflow_add-x : goal.overflow_add-x
overflow_add-x c = let p = c.requires in omega (arith, subsets_most _ p.0.known)

pub overflow_add-x-2 : goal.overflow_add-x-2
overflow_add-x-2 c = let p = c.requires in omega (arith, subsets_most _ p.0.known)

pub returns : goal.returns
returns c =
    let p = c.requires in
    line_is _ _ _ _ _ _ _ _ _ _ p.2 c.end_colours-colour0.ensures.0 c.end_colours-colour1.ensures.0
    c.alpha_of.ensures.0 c.alpha_lanes-alpha0.ensures.0 c.alpha_of-2.ensures.0 c.alpha_lanes-alpha1.ensures.0
