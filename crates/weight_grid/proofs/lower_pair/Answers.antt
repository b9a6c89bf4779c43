use native.Mathlib.Omega.{arith}
use Rattle.weight_grid.specs.Bilinear.{w10, w11}
use Rattle.weight_grid.specs.inner.Pairs.{lower_pair}
use Rattle.weight_grid.proofs.Factors.{Shares, shares}
use borrow.Author.Rules.{rules}
use Rattle.weight_grid.proofs.lower_pair.Goals as goal
use Rattle.weight_grid.proofs.lower_pair.Goals.{Start}

s : (c : Start) → Shares c.args.fs c.args.ft
s c = shares c.args.fs c.args.ft c.requires.0 c.requires.1

pub overflow_mul-w11 : goal.overflow_mul-w11
unfolding lower_pair w10 w11
overflow_mul-w11 c = omega (arith, s c)

pub overflow_add-w11 : goal.overflow_add-w11
unfolding lower_pair w10 w11
overflow_add-w11 c = omega (arith, s c)

pub overflow_sub-result : goal.overflow_sub-result
unfolding lower_pair w10 w11
overflow_sub-result c = omega (arith, s c)

pub overflow_mul-result : goal.overflow_mul-result
unfolding lower_pair w10 w11
overflow_mul-result c = omega (arith, s c)

pub overflow_add-result : goal.overflow_add-result
unfolding lower_pair w10 w11
overflow_add-result c = omega (arith, s c)

pub returns : goal.returns
unfolding lower_pair w10 w11
returns c = search rules
