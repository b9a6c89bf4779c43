use native.Mathlib.Omega.{arith}
use Rattle.weight_grid.specs.inner.Pairs.{pair_blend}
use borrow.Author.Rules.{rules}
use Rattle.weight_grid.proofs.infill_pairs.Goals as goal

pub overflow_mul-result : goal.overflow_mul-result
unfolding pair_blend
overflow_mul-result c = omega (arith, c.requires)

pub overflow_mul-result-2 : goal.overflow_mul-result-2
unfolding pair_blend
overflow_mul-result-2 c = omega (arith, c.requires)

pub overflow_add-result : goal.overflow_add-result
unfolding pair_blend
overflow_add-result c = omega (arith, c.requires)

pub overflow_add-result-2 : goal.overflow_add-result-2
unfolding pair_blend
overflow_add-result-2 c = omega (arith, c.requires)

pub returns : goal.returns
unfolding pair_blend
returns c = search rules
