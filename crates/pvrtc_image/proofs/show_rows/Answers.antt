use mathlib.Core.Path.{◌∙◌}
use Prim.Native.Nat.{◌*◌, ◌^◌, ◌<◌}
use native.Mathlib.Omega.{arith}
use Rattle.pvrtc_texel.proofs.Places.{row_inside}
use Rattle.pvrtc_image.proofs.Showing.{showing_start, showing_more, showing_done}
use Rattle.pvrtc_image.proofs.show_rows.Goals as goal
use Rattle.pvrtc_image.proofs.show_rows.Goals.{After-show_row-arg-1, After-slice_known-in-loop-y-1}

-- the row is one of the image's
below-After-show_row-arg-1 : (c : After-show_row-arg-1) → c.loop-y.y < 4 * 2 ^ c.args.yb
below-After-show_row-arg-1 c = omega (arith, c.loop-y-test.true, c.words_along-y-end.ensures.0)

-- the row is one of the image's
below-After-slice_known-in-loop-y-1 : (c : After-slice_known-in-loop-y-1) → c.loop-y.y < 4 * 2 ^ c.args.yb
below-After-slice_known-in-loop-y-1 c = omega (arith, c.loop-y-test.true, c.words_along-y-end.ensures.0)

pub start_window-requires : goal.start_window-requires
start_window-requires c = record { words_sized = c.requires.words_sized; first_len = (c.blank-first.ensures, c.blank-last.ensures, c.blank-top.ensures, c.blank-bottom.ensures) }

pub words_along-y-end-requires : goal.words_along-y-end-requires
words_along-y-end-requires c = c.requires.words_sized.high

pub overflow_mul-y-end : goal.overflow_mul-y-end
overflow_mul-y-end c = omega (arith, c.words_along-y-end.ensures.2)

pub loop-y-init : goal.loop-y-init
loop-y-init c = showing_start _ _ _ _ _ _ _ c.start_window.ensures.window c.blank-line.ensures

pub show_row-requires : goal.show_row-requires
show_row-requires c = let l = c.loop-y in
    let p = c.requires in
    let h = below-After-show_row-arg-1 c in record { words_sized = p.words_sized; y_bound = (h, l.invariant.room); xb_in_bounds = rw (l.invariant.size ∙ p.out_len) (row_inside _ _ _ h); end_rows = c.start_window.ensures.end_rows; window = l.invariant.window }

pub loop-y-preserved : goal.loop-y-preserved
loop-y-preserved c =
    let k = c in
    let r = c.show_row.ensures in
    let l = k.loop-y in
    showing_more _ _ _ _ _ _ _ l.out _ _ _ _ l.y (below-After-slice_known-in-loop-y-1 c) l.invariant r.window_2 r.line_len r.painted

pub shape_of-out : goal.shape_of-out
shape_of-out c = c.loop-y.invariant.size

pub returns : goal.returns
returns c =
    let l = c.loop-y in
    showing_done _ _ _ _ _ _ _ l.out l.y c.requires.out_len (omega (arith, c.loop-y-test.false, c.words_along-y-end.ensures.0)) l.invariant
