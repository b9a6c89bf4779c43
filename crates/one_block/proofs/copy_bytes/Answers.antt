use mathlib.Core.Path.{refl}
use Prim.Native.Nat.{◌-◌}
use native.Mathlib.Omega.{arith}
use Rattle.laws.proofs.Filling.{filling_start, filling_more, filling_done}
use Rattle.one_block.proofs.copy_bytes.Invariants.{told}
use Rattle.one_block.proofs.copy_bytes.Goals as goal

pub loop-i-preserved : goal.loop-i-preserved
loop-i-preserved c = (
  omega (arith, c.loop-i.invariant.2.size),
  c.loop-i.invariant.1,
  filling_more _ 0 _ _ _ _ (omega (arith, c.loop-i.invariant.2.size)) c.loop-i.invariant.2 c.top_byte.ensures,
)

pub loop-i-init : goal.loop-i-init
loop-i-init c = (omega arith, c.requires, filling_start _ 0 _ _ refl)

pub offset_bounds-from-i : goal.offset_bounds-from-i
offset_bounds-from-i c = omega (arith, c.loop-i.invariant.2.size)

pub bounds-from-i : goal.bounds-from-i
bounds-from-i c = omega (arith, c.loop-i.invariant.2.size)

pub bounds-out-i : goal.bounds-out-i
bounds-out-i c = omega (arith, c.loop-i.invariant.2.size)

pub overflow_add-i : goal.overflow_add-i
overflow_add-i c = omega (arith, c.loop-i.invariant.2.size)

pub loop-i-smaller : goal.loop-i-smaller
loop-i-smaller c = omega (arith, c.loop-i.invariant.2.size)

pub shape_of-out : goal.shape_of-out
shape_of-out c = c.loop-i.invariant.2.size

pub returns : goal.returns
returns c = filling_done (told c.args.from.now) 0 _ _ _ (omega (arith, c.loop-i.invariant.2.size)) c.loop-i.invariant.2
