use mathlib.Core.Path.{refl}
use Prim.Native.Nat.{◌-◌}
use native.Mathlib.Omega.{arith}
use Rattle.laws.proofs.Filling.{filling_start, filling_more, filling_done}
use Rattle.one_block.proofs.copy_words.Invariants.{told}
use Rattle.one_block.proofs.copy_words.Goals as goal

pub loop-k-preserved : goal.loop-k-preserved
loop-k-preserved c = (
  omega (arith, c.loop-k.invariant.2.size),
  c.loop-k.invariant.1,
  filling_more _ 0 _ _ _ _ (omega (arith, c.loop-k.invariant.2.size)) c.loop-k.invariant.2 refl,
)

pub loop-k-init : goal.loop-k-init
loop-k-init c = (omega arith, c.requires, filling_start _ 0 _ _ refl)

pub offset_bounds-from-k : goal.offset_bounds-from-k
offset_bounds-from-k c = omega (arith, c.loop-k.invariant.2.size)

pub bounds-from-k : goal.bounds-from-k
bounds-from-k c = omega (arith, c.loop-k.invariant.2.size)

pub offset_bounds-out-k : goal.offset_bounds-out-k
offset_bounds-out-k c = omega (arith, c.loop-k.invariant.2.size)

pub bounds-out-k : goal.bounds-out-k
bounds-out-k c = omega (arith, c.loop-k.invariant.2.size)

pub overflow_add-k : goal.overflow_add-k
overflow_add-k c = omega (arith, c.loop-k.invariant.2.size)

pub loop-k-smaller : goal.loop-k-smaller
loop-k-smaller c = omega (arith, c.loop-k.invariant.2.size)

pub shape_of-out : goal.shape_of-out
shape_of-out c = c.loop-k.invariant.2.size

pub returns : goal.returns
returns c = filling_done (told c.args.from.now) 0 _ _ _ (omega (arith, c.loop-k.invariant.2.size)) c.loop-k.invariant.2
