-- `interpolation::times` meets its contract.
use Rattle.std.proofs.Common.{◌*◌, ◌≤◌, refl, mul-le-mul, arith, rules}
use Rattle.interpolation.specs.inner.Line.{times}
use Rattle.interpolation.proofs.times.Goals as goal

pub overflow_mul-result : goal.overflow_mul-result
overflow_mul-result c =
    let h : c.args.a * c.args.b ≤ 65535 * 65535 = mul-le-mul {n₂ = 65535} {m₂ = 65535} (omega arith) (omega arith) in
    omega arith

pub returns : goal.returns
unfolding times
returns c = refl
