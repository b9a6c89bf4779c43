use mathlib.Core.Path.{◌≡◌, sym, ap, ◌∙◌}
use Prim.Native.Nat.{ℕ, ◌+◌, ◌-◌, ◌^◌, ◌≤◌, ◌<◌}
use native.Mathlib.Omega.{arith}
use lib.ListN.{length}
use borrow.Author.Rules.{rules}
use Rattle.pvrtc_texel.specs.Word.{colour_a, colour_b}
use Rattle.pvrtc_texel.specs.Image.{word_at}
use Rattle.pvrtc_word.specs.inner.Lanes.{lanes}
use Rattle.pvrtc_rows.specs.inner.Rows.{around, ThreesFrom}
use Rattle.pvrtc_rows.proofs.Rows.{from_none, length_three, from_put, around_next, row_closed}
use Rattle.pvrtc_rows.proofs.unpack_row.Goals as goal

pub loop-i-init : goal.loop-i-init
loop-i-init c = (omega arith, c.requires.y_bound.1, from_none _ _ _ _ 1)

pub word_in-w-requires : goal.word_in-w-requires
word_in-w-requires c = let p = c.requires in record { words_sized = p.words_sized; x_bound = (omega (arith, c.words_along-n.ensures.0), p.y_bound.0) }

pub keep_word-requires : goal.keep_word-requires
keep_word-requires c = (c.loop-i.invariant.1, omega (arith, c.words_along-n.ensures.2))

pub loop-i-preserved : goal.loop-i-preserved
loop-i-preserved c =
    let l = c.loop-i in
    let k = c.before.before.before.before.before in
    let a = k.args in
    let h : l.i < 2 ^ a.xb = omega (arith, k.words_along-n.ensures.0) in
    let w = c.word_in-w.ensures ∙ ap (λ (X : ℕ). word_at a.xb a.yb a.s.now X a.y) (sym (around_next (2 ^ a.xb) l.i h)) in
    let t = from_put _ _ _ l.row _ 1 (l.i + 1) (omega (arith, k.words_along-n.ensures.2)) l.invariant.1 l.invariant.2 c.keep_word.ensures
    (ap (λ (W : ℕ). lanes (colour_a W)) w) (ap (λ (W : ℕ). lanes (colour_b W)) w) w in
    (omega arith, t.0, t.1)

pub copy_word-requires : goal.copy_word-requires
copy_word-requires c = (c.loop-i.invariant.1, omega (arith, c.words_along-n.ensures.2), omega arith)

pub copy_word-requires-2 : goal.copy_word-requires-2
copy_word-requires-2 c =
    let l = c.loop-i in
    (ap length c.copy_word.ensures ∙ length_three l.row 0 _ _ _ ∙ l.invariant.1, omega arith, omega (arith, c.words_along-n.ensures.2))

pub returns : goal.returns
returns c =
    let d = c.before.before in
    let l = d.loop-i in
    let k = d.before.before.before.before in
    let xb = k.args.xb in
    let e : l.i + 1 ≡ 2 ^ xb + 1 = omega (arith, k.words_along-n.ensures.0) in
    let n = k.words_along-n.ensures in
    row_closed (2 ^ xb) _ l.row _ _ (rw n.0 at n.1) (rw n.0 at n.2) l.invariant.1 (rw e at l.invariant.2) (rw n.0 at d.copy_word.ensures) (rw n.0 at c.copy_word-2.ensures)

pub words_along-n-requires : goal.words_along-n-requires
words_along-n-requires c = c.requires.words_sized.wide
