use Prim.Native.Nat.{◌-◌}
use Rattle.pvrtc_image.proofs.Showing.{Showing}
use Rattle.pvrtc_image.proofs.show_rows.Given as goal

abbrev pub invariant-loop-y : goal.invariant-loop-y
invariant-loop-y l = Showing l.xb l.yb l.s l.top l.bottom l.line l.initial.out l.out l.y

abbrev pub decreases-loop-y : goal.decreases-loop-y
decreases-loop-y l = l.y-end - l.y
