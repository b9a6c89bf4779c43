use mathlib.Core.Path.{refl, ap, ◌∙◌}
use Prim.Native.Nat.{◌-◌}
use native.Mathlib.Omega.{arith}
use lib.ListN.{length}
use Rattle.laws.specs.Table.{tab}
use Rattle.laws.proofs.Filling.{filling_start, filling_done}
use Rattle.caption_image.specs.Image.{caption_blocks}
use Rattle.caption_image.proofs.Laws.{Begins, begins, byte_at, block_more, block_bytes_lem}
use Rattle.caption_image.proofs.fill.Goals as goal
use Rattle.caption_image.proofs.fill.Goals.{In-loop-b}

here : (c : In-loop-b) → Begins c.args.width c.args.height c.loop-b.b c.args.across
here c = begins _ _ _ _ (length c.args.out.now) _ c.requires.lent c.requires.across_value c.requires.out_len (omega arith)

pub loop-b-init : goal.loop-b-init
loop-b-init c = filling_start _ 0 _ _ refl

pub nonzero_rem-b : goal.nonzero_rem-b
nonzero_rem-b c = (here c).some

pub overflow_mul-b : goal.overflow_mul-b
overflow_mul-b c = omega (arith, (here c).column, c.requires.lent.w_most)

pub nonzero_div-b : goal.nonzero_div-b
nonzero_div-b c = (here c).some

pub overflow_mul-b-in-loop-b : goal.overflow_mul-b-in-loop-b
overflow_mul-b-in-loop-b c = omega (arith, (here c).row, c.requires.lent.h_most)

pub gather-greys-requires : goal.gather-greys-requires
gather-greys-requires c = record { lent = c.requires.lent; x_bound = (omega (arith, (here c).column, c.requires.lent.w_most), omega (arith, (here c).row, c.requires.lent.h_most)) }

pub caption-requires : goal.caption-requires
caption-requires c = tt

pub put-requires : goal.put-requires
put-requires c = omega (arith, c.loop-b.invariant.size)

pub loop-b-preserved : goal.loop-b-preserved
loop-b-preserved c =
    let a = c.args in
    block_more _ _ _ _ _ _ c.put.ensures
    (block_bytes_lem a.e0 a.e1 a.width a.height a.wanted.now c.loop-b.b a.across c.requires.across_value c.gather-greys.ensures c.caption.ensures.value)
    c.loop-b.invariant

pub shape_of-out : goal.shape_of-out
shape_of-out c = c.loop-b.invariant.size

pub returns : goal.returns
unfolding caption_blocks
returns c =
    let st = c in
    filling_done _ 0 _ _ _ (omega (arith, st.requires.out_len)) c.loop-b.invariant
    ∙ ap (tab (byte_at st.args.e0 st.args.e1 st.args.width st.args.height st.args.wanted.now)) st.requires.out_len
