use mathlib.Core.Path.{refl}
use Prim.Native.Nat.{◌-◌}
use native.Mathlib.Omega.{arith}
use Rattle.laws.proofs.Filling.{filling_start, filling_more, filling_done}
use Rattle.caption_image.proofs.gather.Invariants.{grey_at}
use Rattle.caption_image.proofs.gather.Goals as goal

pub loop-i-init : goal.loop-i-init
loop-i-init c = filling_start _ 0 16 _ refl

pub overflow_add-x : goal.overflow_add-x
overflow_add-x c = omega (arith, c.requires.x_bound.0)

pub overflow_add-y : goal.overflow_add-y
overflow_add-y c = omega (arith, c.requires.x_bound.1)

pub grey_at-requires : goal.grey_at-requires
grey_at-requires c = c.requires.lent

pub loop-i-preserved : goal.loop-i-preserved
loop-i-preserved c =
    filling_more _ 0 16 _ _ _ (omega arith) c.loop-i.invariant c.grey_at.ensures

pub returns : goal.returns
returns c = filling_done _ 0 16 _ _ (omega arith) c.loop-i.invariant
