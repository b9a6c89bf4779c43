use mathlib.Core.Path.{◌≡◌, refl}
use native.Mathlib.Omega.{arith}
use Rattle.pvrtc_rows.proofs.Rows.{threes_none, threes_put}
use Rattle.pvrtc_image.proofs.Lines.{low_less}
use Rattle.pvrtc_image.proofs.blend_rows.Goals as goal

pub loop-i-init : goal.loop-i-init
loop-i-init c = (omega arith, c.requires.n_bound.2, threes_none _ _ _ _)

pub blend_word-requires : goal.blend_word-requires
blend_word-requires c = let p = c.requires in record { i_bound = (omega arith, p.n_bound.1, c.loop-i.invariant.1); low = (low_less _ _ _ (omega arith) p.low.0, low_less _ _ _ (omega arith) p.low.1) }

pub loop-i-preserved : goal.loop-i-preserved
loop-i-preserved c =
    let l = c.loop-i in
    let t = threes_put _ _ _ l.line _ l.i (omega arith) l.invariant.1 l.invariant.2 c.blend_word.ensures refl refl refl in
    (omega arith, t.0, t.1)

pub returns : goal.returns
returns c =
    let l = c.loop-i in
    let e : l.i ≡ c.args.n = omega arith in
    record { size = l.invariant.1; words = rw e at l.invariant.2 }
