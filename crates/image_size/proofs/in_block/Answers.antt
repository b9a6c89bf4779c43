use mathlib.Core.Path.{◌≡◌}
use Prim.Native.Nat.{◌+◌, ◌*◌, ◌%◌, ◌<◌}
use native.Mathlib.Nat.{mod-lt, div-add-mod'}
use native.Mathlib.Omega.{arith}
use Rattle.image_size.proofs.in_block.Goals as goal

-- the blocks before it and its place are all of it
whole : (c : goal.After-quotient-block) → c.quotient-block.result * c.args.side + c.args.at % c.args.side ≡ c.args.at
whole c = rw c.quotient-block.ensures (div-add-mod' c.args.at c.args.side)

within : (c : goal.After-quotient-block) → c.args.at % c.args.side < c.args.side
within c = mod-lt c.args.at c.requires

pub overflow_mul-result : goal.overflow_mul-result
overflow_mul-result c = omega (arith, whole c)

pub overflow_sub-result : goal.overflow_sub-result
overflow_sub-result c = omega (arith, whole c)

pub overflow_cast-result-2 : goal.overflow_cast-result-2
overflow_cast-result-2 c = omega (arith, whole c, within c)

pub returns : goal.returns
returns c = (c.quotient-block.ensures, omega (arith, whole c))
