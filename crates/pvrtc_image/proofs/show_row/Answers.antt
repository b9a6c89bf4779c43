use native.Mathlib.Omega.{arith}
use Rattle.pvrtc_rows.proofs.Words.{texels_most}
use Rattle.pvrtc_image.proofs.Showing.{window_low, row_paintable, row_painted}
use Rattle.pvrtc_image.proofs.show_row.Goals as goal

pub blend_rows-requires : goal.blend_rows-requires
blend_rows-requires c = let k = c.before.before.before in
    let w = window_low _ _ _ _ _ _ _ c.words_along-n.ensures.0 c.move_window.ensures in record { n_bound = (omega (arith, c.words_along-n.ensures.2), omega arith, c.requires.y_bound.1); low = w }

pub paint_row-requires : goal.paint_row-requires
paint_row-requires c = let k = c.before.before.before.before.before.before in
    let p = c.requires in record { w_bound = (omega (arith, c.words_along-n.ensures.2), rw c.words_along-n.ensures.0 p.xb_in_bounds); by_index = row_paintable _ _ _ _ _ _ _ _ c.words_along-n.ensures.0 p.y_bound.0 c.move_window.ensures c.blend_rows.ensures }

pub returns : goal.returns
returns c = let k = c.before.before.before.before.before.before.before.before.before in
    let p = c.requires in record { window_2 = c.move_window.ensures; line_len = c.blend_rows.ensures.size; painted = row_painted _ _ _ _ _ _ _ _ c.words_along-n.ensures.0 p.y_bound.0 c.move_window.ensures c.blend_rows.ensures _ _ c.paint_row.ensures }

pub overflow_add-y : goal.overflow_add-y
overflow_add-y c = omega (arith, texels_most _ _ c.requires.words_sized.high c.requires.y_bound.0)
