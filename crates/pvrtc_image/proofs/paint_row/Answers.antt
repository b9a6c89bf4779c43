use mathlib.Core.Path.{◌≡◌}
use Prim.Native.Nat.{◌+◌, ◌*◌, ◌≤◌}
use native.Mathlib.Omega.{arith}
use lib.ListN.{length, length-set}
use Rattle.pvrtc_image.specs.inner.Lines.{shown_on_line}
use Rattle.pvrtc_image.proofs.Lines.{painted_none, painted_texel}
use Rattle.pvrtc_image.proofs.paint_row.Goals as goal
use Rattle.pvrtc_image.proofs.paint_row.Goals.{After-texel_in-t}

pub loop-x-init : goal.loop-x-init
loop-x-init c = (omega arith, painted_none _ _ _)

-- the texel's four bytes are inside
room : (c : After-texel_in-t) → 4 * (c.args.y * c.args.w) + 4 * c.loop-x.x + 4 ≤ length c.loop-x.out
room c = omega (arith, c.loop-x.invariant.1.size)

pub texel_in-t-requires : goal.texel_in-t-requires
texel_in-t-requires c = (omega arith, c.requires.by_index c.loop-x.x c.loop-x-test.true)

pub loop-x-preserved : goal.loop-x-preserved
loop-x-preserved c =
    let l = c.loop-x in
    let a = c.args in
    (omega arith, painted_texel (shown_on_line a.line.now a.y) l.x _ _ l.out _ (omega arith) l.invariant.1 c.texel_in-t.ensures)

pub returns : goal.returns
returns c =
    let l = c.loop-x in
    let e : l.x ≡ c.args.w = omega arith in
    rw e at l.invariant.1

pub overflow_add-at : goal.overflow_add-at
overflow_add-at c = omega (arith, room c)

pub bounds-out-at : goal.bounds-out-at
bounds-out-at c = omega (arith, room c)

pub overflow_add-out : goal.overflow_add-out
overflow_add-out c = omega (arith, room c)

pub bounds-out-at-in-loop-x : goal.bounds-out-at-in-loop-x
bounds-out-at-in-loop-x c = simp length-set (omega (arith, room c))

pub overflow_add-out-in-loop-x : goal.overflow_add-out-in-loop-x
overflow_add-out-in-loop-x c = omega (arith, room c)

pub bounds-out-at-in-loop-x-2 : goal.bounds-out-at-in-loop-x-2
bounds-out-at-in-loop-x-2 c = simp length-set (omega (arith, room c))

pub overflow_add-out-in-loop-x-2 : goal.overflow_add-out-in-loop-x-2
overflow_add-out-in-loop-x-2 c = omega (arith, room c)

pub bounds-out-at-in-loop-x-3 : goal.bounds-out-at-in-loop-x-3
bounds-out-at-in-loop-x-3 c = simp length-set (omega (arith, room c))

pub shape_of-out : goal.shape_of-out
shape_of-out c = c.loop-x.invariant.1.size
