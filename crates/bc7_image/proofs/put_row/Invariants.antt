use mathlib.Core.Path.{◌≡◌}
use Prim.Native.Nat.{◌-◌, ◌≤◌}
use lib.ListN.{length}
use Rattle.picture_regions.specs.inner.Regions.{Pasted}
use Rattle.bc7_image.proofs.put_row.Given as goal

abbrev pub invariant-loop-i : goal.invariant-loop-i
invariant-loop-i l = (l.i ≤ 16) × (length l.out ≡ length l.initial.out) × Pasted (λ n. n) l.row 0 l.i l.initial.out l.at l.out

abbrev pub decreases-loop-i : goal.decreases-loop-i
decreases-loop-i l = 16 - l.i
