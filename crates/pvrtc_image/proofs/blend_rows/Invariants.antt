use mathlib.Core.Path.{◌≡◌}
use Prim.Native.Nat.{◌+◌, ◌-◌, ◌*◌, ◌≤◌}
use lib.ListN.{length}
use Rattle.pvrtc_rows.specs.inner.Rows.{Threes}
use Rattle.pvrtc_image.specs.inner.Lines.{rows_between, own_of}
use Rattle.pvrtc_image.proofs.blend_rows.Given as goal

abbrev pub invariant-loop-i : goal.invariant-loop-i
invariant-loop-i l =
    (l.i ≤ l.n) × (length l.line ≡ 3078)
    × Threes (λ k. rows_between l.p l.top l.bottom (3 * k)) (λ k. rows_between l.p l.top l.bottom (3 * k + 1)) (λ k. own_of l.p l.top l.bottom (3 * k + 2)) l.line l.i

abbrev pub decreases-loop-i : goal.decreases-loop-i
decreases-loop-i l = l.n - l.i
