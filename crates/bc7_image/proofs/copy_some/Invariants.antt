use Prim.Native.Nat.{◌-◌}
use Rattle.picture_regions.proofs.Regions.{Pasting}
use Rattle.bc7_image.proofs.copy_some.Given as goal

abbrev pub invariant-loop-i : goal.invariant-loop-i
invariant-loop-i l = Pasting (λ n. n) l.src l.from l.initial.out l.at l.i-end l.out l.i

abbrev pub decreases-loop-i : goal.decreases-loop-i
decreases-loop-i l = l.i-end - l.i
