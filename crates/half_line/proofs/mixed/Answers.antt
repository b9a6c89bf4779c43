-- `half_line::mixed` meets its contract.
use native.Mathlib.Omega.{arith}
use Prim.Native.Nat.{◌*◌, ◌≤◌}
use native.Mathlib.Nat.{mul-le-mul}
use Rattle.interpolation.specs.Texel.{mix_of}
use borrow.Author.Rules.{rules}
use Rattle.half_line.proofs.mixed.Goals as goal
use Rattle.half_line.proofs.mixed.Goals.{After-rest}

low : (c : After-rest) → c.args.c0 * c.rest.result ≤ 65535 * 64
low c = mul-le-mul {n₂ = 65535} {m₂ = 64} (omega arith) c.rest.ensures.1

high : (c : After-rest) → c.args.c1 * c.args.i ≤ 65535 * 65535
high c = mul-le-mul {n₂ = 65535} {m₂ = 65535} (omega arith) (omega arith)

pub overflow_mul-result : goal.overflow_mul-result
overflow_mul-result c = record { fits = omega (arith, low c) }

pub overflow_mul-result-2 : goal.overflow_mul-result-2
overflow_mul-result-2 c = record { fits = omega (arith, high c) }

pub overflow_add-result : goal.overflow_add-result
overflow_add-result c = record { fits = omega (arith, low c, high c) }

pub overflow_add-result-2 : goal.overflow_add-result-2
overflow_add-result-2 c = record { fits = omega (arith, low c, high c) }

pub returns : goal.returns
unfolding mix_of
returns c = rw c.rest.ensures.0
