use mathlib.Core.Path.{refl}
use Prim.Native.Nat.{◌+◌, ◌*◌, ◌≤◌}
use native.Mathlib.Omega.{arith}
use Rattle.volume_infill.specs.inner.Way.{both_four}
use Rattle.volume_infill.proofs.Sixteenths.{sum_le}
use borrow.Author.Rules.{rules}
use Rattle.volume_infill.proofs.blend_four.Goals as goal
use Rattle.volume_infill.proofs.blend_four.Goals.{Start}

total : (c : Start) → c.args.p0 * c.args.w0 + c.args.p1 * c.args.w1 + c.args.p2 * c.args.w2 + c.args.p3 * c.args.w3 ≤ 16711935 * 16
total c =
    sum_le c.args.w0 c.args.w1 c.args.w2 c.args.w3 c.requires.w3_value 16711935 _ _ _ _ c.requires.p0_bound.0 c.requires.p0_bound.1 c.requires.p0_bound.2 c.requires.p0_bound.3

pub overflow_mul-result : goal.overflow_mul-result
unfolding both_four
overflow_mul-result c = omega (arith, total c)

pub overflow_mul-result-2 : goal.overflow_mul-result-2
unfolding both_four
overflow_mul-result-2 c = omega (arith, total c)

pub overflow_add-result : goal.overflow_add-result
unfolding both_four
overflow_add-result c = omega (arith, total c)

pub overflow_mul-result-3 : goal.overflow_mul-result-3
unfolding both_four
overflow_mul-result-3 c = omega (arith, total c)

pub overflow_add-result-2 : goal.overflow_add-result-2
unfolding both_four
overflow_add-result-2 c = omega (arith, total c)

pub overflow_mul-result-4 : goal.overflow_mul-result-4
unfolding both_four
overflow_mul-result-4 c = omega (arith, total c)

pub overflow_add-result-3 : goal.overflow_add-result-3
unfolding both_four
overflow_add-result-3 c = omega (arith, total c)

pub overflow_add-result-4 : goal.overflow_add-result-4
unfolding both_four
overflow_add-result-4 c = omega (arith, total c)

pub returns : goal.returns
unfolding both_four
returns c = refl
