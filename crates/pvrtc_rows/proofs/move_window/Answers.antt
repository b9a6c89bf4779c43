use mathlib.Core.Path.{◌≡◌, ap, ◌∙◌}
use Prim.Native.Nat.{ℕ, ◌+◌, ◌*◌, ◌/◌, ◌^◌, ◌≤◌, ◌<◌}
use native.Mathlib.Omega.{arith}
use borrow.Author.Rules.{rules}
use Rattle.pvrtc_rows.specs.inner.Rows.{around}
use Rattle.pvrtc_rows.proofs.Words.{texels_most}
use Rattle.pvrtc_rows.proofs.Rows.{window_stays, window_moves}
use Rattle.pvrtc_rows.proofs.move_window.Goals as goal

pub returns-then-y-ne0 : goal.returns-then-y-ne0
returns-then-y-ne0 c = window_stays _ _ _ _ _ _ c.if-y-ne0.true c.requires.window

pub fetch_row-requires : goal.fetch_row-requires
fetch_row-requires c = let m = c in
    let st = c in record { words_sized = st.requires.words_sized; y_bound = (rw m.words_along.ensures.0 at c.word_around-below.ensures.1, st.requires.window.below.size); end_rows = st.requires.end_rows }

pub returns : goal.returns
returns c =
    let d = c in
    let k = d in
    let s = k in
    window_moves _ _ _ _ _ _ _ _ _ (omega (arith, k.if-y-ne0.false)) s.requires.window
    (rw c.words_along-n.ensures.0 at d.copy_row.ensures.filled) d.copy_row.ensures.to_len
    (c.word_around-below.ensures.0 ∙ ap (λ (n : ℕ). around n ((s.args.y + 2) / 4 + 1)) c.words_along.ensures.0)
    c.fetch_row.ensures

pub overflow_add-y : goal.overflow_add-y
overflow_add-y c = omega (arith, texels_most _ _ c.requires.words_sized.high c.requires.y_bound)
