use mathlib.Core.Path.{refl}
use Prim.Native.Nat.{ℕ, ◌-◌, ◌*◌, ◌≤◌}
use native.Mathlib.Nat.{mul-le-mul_right}
use native.Mathlib.Omega.{arith}
use Rattle.bc7_ends.specs.inner.Lanes.{sum_on}
use Rattle.bc7_core.proofs.sum_on.Goals as goal

scaled : (q k : ℕ) → q ≤ 71777214294589695 → q * k ≤ 71777214294589695 * k
scaled q k h = mul-le-mul_right k h

pub overflow_mul-result : goal.overflow_mul-result
overflow_mul-result c = let p = c.requires in omega (arith, scaled _ (64 - c.args.f) (p.0 0))

pub overflow_mul-result-2 : goal.overflow_mul-result-2
overflow_mul-result-2 c = let p = c.requires in omega (arith, scaled _ c.args.f (p.0 1))

pub overflow_add-result : goal.overflow_add-result
overflow_add-result c = let p = c.requires in omega (arith, scaled _ (64 - c.args.f) (p.0 0), scaled _ c.args.f (p.0 1))

pub overflow_mul-result-3 : goal.overflow_mul-result-3
overflow_mul-result-3 c = let p = c.requires in omega (arith, scaled _ (64 - c.args.g) (p.0 2))

pub overflow_mul-result-4 : goal.overflow_mul-result-4
overflow_mul-result-4 c = let p = c.requires in omega (arith, scaled _ c.args.g (p.0 3))

pub overflow_add-result-2 : goal.overflow_add-result-2
overflow_add-result-2 c = let p = c.requires in omega (arith, scaled _ (64 - c.args.g) (p.0 2), scaled _ c.args.g (p.0 3))

pub overflow_add-result-3 : goal.overflow_add-result-3
overflow_add-result-3 c =
    let p = c.requires in
    omega (arith, scaled _ (64 - c.args.f) (p.0 0), scaled _ c.args.f (p.0 1), scaled _ (64 - c.args.g) (p.0 2), scaled _ c.args.g (p.0 3))

pub overflow_add-result-4 : goal.overflow_add-result-4
overflow_add-result-4 c =
    let p = c.requires in
    omega (arith, scaled _ (64 - c.args.f) (p.0 0), scaled _ c.args.f (p.0 1), scaled _ (64 - c.args.g) (p.0 2), scaled _ c.args.g (p.0 3))

pub returns : goal.returns
unfolding sum_on
returns c = refl
