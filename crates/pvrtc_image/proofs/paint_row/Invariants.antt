use Prim.Native.Nat.{◌-◌, ◌*◌, ◌/◌, ◌%◌, ◌≤◌}
use Rattle.pvrtc_image.specs.inner.Lines.{shown_on_line, Painted}
use Rattle.pvrtc_image.proofs.paint_row.Given as goal

abbrev pub invariant-loop-x : goal.invariant-loop-x
invariant-loop-x l = (l.x ≤ l.w) × Painted (λ k. shown_on_line l.line l.y (k / 4) (k % 4)) (4 * l.x) (4 * (l.y * l.w)) l.initial.out l.out

abbrev pub decreases-loop-x : goal.decreases-loop-x
decreases-loop-x l = l.w - l.x
