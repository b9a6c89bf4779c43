use mathlib.Core.Path.{◌≡◌}
use Prim.Native.Nat.{◌-◌, ◌^◌}
use native.Mathlib.Omega.{arith}
use Rattle.pvrtc_rows.proofs.Rows.{row_taken}
use borrow.Author.Rules.{rules}
use Rattle.pvrtc_rows.proofs.unpack_last.Goals as goal

pub returns-then-m-eq1 : goal.returns-then-m-eq1
returns-then-m-eq1 c =
    let t = c.before.before.before in
    let k = t.before in
    let st = k.before.before in
    let e : 0 ≡ 2 ^ st.args.yb - 1 = omega (arith, t.if-m-eq1.true, k.words_along-m.ensures.0) in
    row_taken _ _ _ _ _ 0 _ _ c.words_along.ensures.0 e st.requires.word_row c.copy_row.ensures.filled c.copy_row.ensures.to_len

pub returns : goal.returns
returns c = rw c.words_along-m.ensures.0 at c.unpack_row.ensures
