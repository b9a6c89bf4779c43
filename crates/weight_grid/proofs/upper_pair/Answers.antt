use native.Mathlib.Omega.{arith}
use Rattle.weight_grid.specs.Bilinear.{w00, w01, w10, w11}
use Rattle.weight_grid.specs.inner.Pairs.{upper_pair, lower_pair}
use Rattle.weight_grid.proofs.Factors.{Shares, shares}
use Rattle.weight_grid.proofs.upper_pair.Goals as goal
use Rattle.weight_grid.proofs.upper_pair.Goals.{Start}

s : (c : Start) → Shares c.args.fs c.args.ft
s c = shares c.args.fs c.args.ft c.requires.fs_bound.0 c.requires.fs_bound.1

pub overflow_mul-result : goal.overflow_mul-result
unfolding upper_pair lower_pair w00 w01 w10 w11
overflow_mul-result c = omega (arith, c.requires.fs_bound)

pub overflow_add-result : goal.overflow_add-result
unfolding upper_pair lower_pair w00 w01 w10 w11
overflow_add-result c = omega (arith, c.requires.fs_bound)

pub overflow_sub-result : goal.overflow_sub-result
unfolding upper_pair lower_pair w00 w01 w10 w11
overflow_sub-result c = omega (arith, s c, c.requires.below_value)

pub returns : goal.returns
unfolding upper_pair lower_pair w00 w01 w10 w11
returns c = omega (arith, s c, c.requires.below_value)
