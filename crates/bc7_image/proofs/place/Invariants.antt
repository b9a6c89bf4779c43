use Prim.Native.Nat.{◌-◌}
use Rattle.image_layout.proofs.Parts.{Placing}
use Rattle.bc7_image.proofs.place.Given as goal

abbrev pub invariant-loop-dy : goal.invariant-loop-dy
invariant-loop-dy l = Placing (λ n. n) l.g l.p l.buf l.initial.out l.out l.dy

abbrev pub decreases-loop-dy : goal.decreases-loop-dy
decreases-loop-dy l = l.dy-end - l.dy
