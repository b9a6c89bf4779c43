use mathlib.Core.Path.{refl}
use Prim.Native.Nat.{◌+◌, ◌-◌, ◌*◌, ◌≤◌}
use native.Mathlib.Omega.{arith}
use Rattle.interpolation.specs.Texel.{mix_of}
use Rattle.caption_block.proofs.Laws.{sum_le}
use Rattle.caption_block.proofs.mixed.Goals as goal
use Rattle.caption_block.proofs.mixed.Goals.{Start}

total : (c : Start) → c.args.c0 * (64 - c.args.level) + c.args.c1 * c.args.level ≤ 4194240
total c = sum_le c.args.c0 c.args.c1 c.args.level c.requires.0 c.requires.1 c.requires.2

pub overflow_mul-result : goal.overflow_mul-result
overflow_mul-result c = omega (arith, total c)

pub overflow_mul-result-2 : goal.overflow_mul-result-2
overflow_mul-result-2 c = omega (arith, total c)

pub overflow_add-result : goal.overflow_add-result
overflow_add-result c = omega (arith, total c)

pub overflow_add-result-2 : goal.overflow_add-result-2
overflow_add-result-2 c = omega (arith, total c)

pub overflow_cast-result : goal.overflow_cast-result
overflow_cast-result c = omega (arith, total c)

pub returns : goal.returns
unfolding mix_of
returns c = refl
