use mathlib.Core.Path.{◌≡◌, sym}
use Prim.Native.Nat.{◌-◌, ◌^◌}
use native.Mathlib.Omega.{arith}
use Rattle.pvrtc_rows.proofs.Words.{side_lt}
use Rattle.pvrtc_rows.proofs.Rows.{row_taken}
use borrow.Author.Rules.{rules}
use Rattle.pvrtc_rows.proofs.fetch_row.Goals as goal

pub returns-then-y-eq0 : goal.returns-then-y-eq0
returns-then-y-eq0 c =
    let k = c.before.before.before in
    row_taken _ _ _ _ _ 0 _ _ k.words_along.ensures.0 (sym c.if-y-eq0.true) k.requires.end_rows.at_first c.copy_row.ensures.filled c.copy_row.ensures.to_len

pub overflow_add-y : goal.overflow_add-y
overflow_add-y c = omega (arith, side_lt _ _ c.requires.words_sized.high c.requires.y_bound.0)

pub returns-then-y-words_along : goal.returns-then-y-words_along
returns-then-y-words_along c =
    let t = c.before.before in
    let k = t.before.before.before in
    let st = k.before.before in
    let e : 2 ^ st.args.yb - 1 ≡ st.args.y = omega (arith, t.if-y-words_along.true, t.words_along-2.ensures.0) in
    row_taken _ _ _ _ _ _ _ _ k.words_along.ensures.0 e st.requires.end_rows.at_last c.copy_row-then-y-words_along.ensures.filled c.copy_row-then-y-words_along.ensures.to_len
