use Prim.Native.Nat.{◌≤◌}
use native.Mathlib.Omega.{arith}
use Rattle.block_mode.specs.inner.Forms.{range_in}
use Rattle.block_mode.proofs.range_in.Goals as goal
use Rattle.block_mode.proofs.range_in.Goals.{After-choose-r21}

-- R2 R1
low : (c : After-choose-r21) → c.choose-r21.result ≤ 3
low c = c.choose-r21.ensures.1 3 (omega arith) (omega arith)

pub returns : goal.returns
unfolding range_in
returns c = rw c.choose-r21.ensures.0

pub overflow_mul-result : goal.overflow_mul-result
overflow_mul-result c = omega (arith, low c)

pub overflow_add-result : goal.overflow_add-result
overflow_add-result c = omega (arith, low c)

pub overflow_add-result-2 : goal.overflow_add-result-2
overflow_add-result-2 c = omega (arith, low c)

pub overflow_add-result-3 : goal.overflow_add-result-3
overflow_add-result-3 c = omega (arith, low c)
