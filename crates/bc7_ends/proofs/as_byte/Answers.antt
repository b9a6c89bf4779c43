use Prim.Native.Nat.{ℕ, ◌*◌, ◌≤◌}
use native.Mathlib.Nat.{mul-le-mul, div-le_self}
use native.Mathlib.Omega.{arith}
use Rattle.bc7_block.specs.Picture.{as_byte}
use Rattle.bc7_ends.proofs.as_byte.Goals as goal

scaled : (v p : ℕ) → v ≤ 511 → p ≤ 256 → v * p ≤ 511 * 256
scaled v p h l = mul-le-mul h l

pub overflow_mul-result : goal.overflow_mul-result
overflow_mul-result c = omega (arith, scaled _ _ c.requires.2 c.power.ensures.2)

pub overflow_add-result : goal.overflow_add-result
overflow_add-result c = omega (arith, scaled _ _ c.requires.2 c.power.ensures.2, div-le_self c.args.v c.power-2.result)

pub returns : goal.returns
unfolding as_byte
returns c = rw (c.power.ensures.0, c.power-2.ensures.0)
