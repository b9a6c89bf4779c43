use mathlib.Core.Path.{sym, ◌∙◌}
use Rattle.bits.specs.Block.{block_number}
use Rattle.void_extent.specs.Layout.{extent_at, bad_void_extent}
use Rattle.void_extent.proofs.Extents.{six_extents}
use borrow.Author.Rules.{rules}
use Rattle.void_extent.proofs.bad_void_extent.Goals as goal

pub returns-then-bad_fixed : goal.returns-then-bad_fixed
unfolding bad_void_extent
returns-then-bad_fixed c = rw (sym c.bad_fixed.ensures ∙ c.if-bad_fixed.true)

pub returns : goal.returns
unfolding bad_void_extent
returns c =
    let z = c.before in
    let y = z.before in
    let x = y.before in
    let w = x.before in
    let v = w.before in
    let u = v.before in
    let t = u.before in
    let a = t.args in
    rw (
      sym t.bad_fixed.ensures ∙ t.if-bad_fixed.false,
      c.bad_extents.ensures,
      six_extents a.volume (extent_at a.volume (block_number a.b)) u.extent-s0.ensures v.extent-s1.ensures w.extent-t0.ensures x.extent-t1.ensures y.extent-r0.ensures z.extent-r1.ensures,
    )
