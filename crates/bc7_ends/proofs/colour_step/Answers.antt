use native.Mathlib.Omega.{arith}
use Rattle.bc7_ends.proofs.Places.{step_is}
use Rattle.bc7_ends.proofs.colour_step.Goals as goal

pub overflow_mul-result-2 : goal.overflow_mul-result-2
overflow_mul-result-2 c = let p = c.requires in omega (arith, (step_is _ _ p.0 p.1 _ _ c.wide.ensures.0 c.wide-2.ensures.0).1)

pub returns : goal.returns
returns c = let p = c.requires in step_is _ _ p.0 p.1 _ _ c.wide.ensures.0 c.wide-2.ensures.0
