use Prim.Native.Nat.{◌*◌, ◌≤◌}
use native.Mathlib.Nat.{mul-le-mul}
use native.Mathlib.Omega.{arith}
use Rattle.block_header.specs.Counts.{weight_count}
use Rattle.block_header.proofs.weight_count.Goals as goal
use Rattle.block_header.proofs.weight_count.Goals.{After-wide-2, After-wide-3, After-wide-4}

two : (c : After-wide-2) → c.wide.result * c.wide-2.result ≤ 255 * 255
two c = mul-le-mul {n₂ = 255} {m₂ = 255} c.wide.ensures.1 c.wide-2.ensures.1

three : (c : After-wide-3) → c.wide.result * c.wide-2.result * c.wide-3.result ≤ 255 * 255 * 255
three c = mul-le-mul {n₂ = 255 * 255} {m₂ = 255} (two c.before) c.wide-3.ensures.1

four : (c : After-wide-4) → c.wide.result * c.wide-2.result * c.wide-3.result * c.wide-4.result ≤ 255 * 255 * 255 * 255
four c = mul-le-mul {n₂ = 255 * 255 * 255} {m₂ = 255} (three c.before) c.wide-4.ensures.1

pub overflow_mul-result : goal.overflow_mul-result
overflow_mul-result c = omega (arith, two c)

pub overflow_mul-result-2 : goal.overflow_mul-result-2
overflow_mul-result-2 c = omega (arith, three c)

pub overflow_mul-result-3 : goal.overflow_mul-result-3
overflow_mul-result-3 c = omega (arith, four c)

pub returns : goal.returns
unfolding weight_count
returns c = (rw (c.wide.ensures.0, c.wide-2.ensures.0, c.wide-3.ensures.0, c.wide-4.ensures.0), four c)
