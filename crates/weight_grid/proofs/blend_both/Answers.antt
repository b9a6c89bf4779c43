-- `weight_grid::blend_both` meets its contract. Assumes nothing.
use mathlib.Core.Path.{◌≡◌}
use Prim.Native.Nat.{ℕ, ◌+◌, ◌-◌, ◌*◌, ◌/◌, ◌≤◌}
use native.Mathlib.Omega.{arith}
use Rattle.weight_grid.specs.Bilinear.{w00, w01, w10, w11}
use Rattle.weight_grid.specs.inner.Points.{both_of}
use Rattle.weight_grid.proofs.Factors.{Shares, shares, total_le}
use Rattle.weight_grid.proofs.blend_both.Goals as goal
use Rattle.weight_grid.proofs.blend_both.Goals.{Start}

module _ (c : Start) where
  s : Shares c.args.fs c.args.ft
  s = shares c.args.fs c.args.ft c.requires.fs_bound.0 c.requires.fs_bound.1

  abbrev sh : ℕ
  sh = (c.args.fs * c.args.ft + 8) / 16

  -- the first factor, as the code makes it
  first : 16 - c.args.ft - (c.args.fs - sh) ≡ 16 + sh - c.args.fs - c.args.ft
  first = omega (arith, s)

  total : c.args.p00 * (16 - c.args.ft - (c.args.fs - sh)) + c.args.p01 * (c.args.fs - sh) + c.args.p10 * (c.args.ft - sh) + c.args.p11 * sh ≤ 16711935 * 16
  unfolding w00 w01 w10 w11
  total = rw first (total_le 16711935 c.args.fs c.args.ft _ _ _ _ c.requires.fs_bound.0 c.requires.fs_bound.1 c.requires.p00_bound.0 c.requires.p00_bound.1 c.requires.p00_bound.2 c.requires.p00_bound.3)

pub overflow_mul-w11 : goal.overflow_mul-w11
unfolding both_of w00 w01 w10 w11
overflow_mul-w11 c = omega (arith, s c)

pub overflow_add-w11 : goal.overflow_add-w11
unfolding both_of w00 w01 w10 w11
overflow_add-w11 c = omega (arith, s c)

pub overflow_sub-w10 : goal.overflow_sub-w10
unfolding both_of w00 w01 w10 w11
overflow_sub-w10 c = omega (arith, s c)

pub overflow_sub-w01 : goal.overflow_sub-w01
unfolding both_of w00 w01 w10 w11
overflow_sub-w01 c = omega (arith, s c)

pub overflow_sub-w00-2 : goal.overflow_sub-w00-2
unfolding both_of w00 w01 w10 w11
overflow_sub-w00-2 c = omega (arith, s c)

pub overflow_mul-result : goal.overflow_mul-result
unfolding both_of w00 w01 w10 w11
overflow_mul-result c = omega (arith, s c, total c)

pub overflow_mul-result-2 : goal.overflow_mul-result-2
unfolding both_of w00 w01 w10 w11
overflow_mul-result-2 c = omega (arith, s c, total c)

pub overflow_add-result : goal.overflow_add-result
unfolding both_of w00 w01 w10 w11
overflow_add-result c = omega (arith, s c, total c)

pub overflow_mul-result-3 : goal.overflow_mul-result-3
unfolding both_of w00 w01 w10 w11
overflow_mul-result-3 c = omega (arith, s c, total c)

pub overflow_add-result-2 : goal.overflow_add-result-2
unfolding both_of w00 w01 w10 w11
overflow_add-result-2 c = omega (arith, s c, total c)

pub overflow_mul-result-4 : goal.overflow_mul-result-4
unfolding both_of w00 w01 w10 w11
overflow_mul-result-4 c = omega (arith, s c, total c)

pub overflow_add-result-3 : goal.overflow_add-result-3
unfolding both_of w00 w01 w10 w11
overflow_add-result-3 c = omega (arith, s c, total c)

pub overflow_add-result-4 : goal.overflow_add-result-4
unfolding both_of w00 w01 w10 w11
overflow_add-result-4 c = omega (arith, s c, total c)

pub returns : goal.returns
unfolding both_of w00 w01 w10 w11
returns c = rw (first c)
