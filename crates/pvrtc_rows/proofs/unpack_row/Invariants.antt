use mathlib.Core.Path.{◌≡◌, sym, ap, ◌∙◌}
use Prim.Native.Nat.{ℕ, ◌+◌, ◌-◌, ◌^◌, ◌≤◌, ◌<◌}
use native.Mathlib.Omega.{arith}
use lib.ListN.{length}
use borrow.Author.Rules.{rules}
use Rattle.pvrtc_texel.specs.Word.{colour_a, colour_b}
use Rattle.pvrtc_texel.specs.Image.{word_at}
use Rattle.pvrtc_word.specs.inner.Lanes.{lanes}
use Rattle.pvrtc_rows.specs.inner.Rows.{around, ThreesFrom}
use Rattle.pvrtc_rows.proofs.Rows.{from_none, length_three, from_put, around_next, row_closed}
use Rattle.pvrtc_rows.proofs.unpack_row.Given as goal

abbrev pub invariant-loop-i : goal.invariant-loop-i
invariant-loop-i l =
    (l.i ≤ l.n) × (length l.row ≡ 3078)
    × ThreesFrom (λ k. lanes (colour_a (word_at l.xb l.yb l.s (around (2 ^ l.xb) k) l.y))) (λ k. lanes (colour_b (word_at l.xb l.yb l.s (around (2 ^ l.xb) k) l.y))) (λ k. word_at l.xb l.yb l.s (around (2 ^ l.xb) k) l.y) l.row 1 (l.i + 1)

abbrev pub decreases-loop-i : goal.decreases-loop-i
decreases-loop-i l = l.n - l.i
