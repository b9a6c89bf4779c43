use Prim.Native.Nat.{◌*◌, ◌-◌}
use Rattle.image_layout.proofs.Walking.{Walking}
use Rattle.bc7_image.specs.Image.{bc7_fault_at, bc7_number_at}
use Rattle.image_layout.specs.inner.Rows.{flat_picture}
use Rattle.bc7_image.proofs.decode.Given as goal

abbrev pub invariant-loop-b : goal.invariant-loop-b
invariant-loop-b l = Walking (bc7_number_at l.g.width l.s) (bc7_fault_at l.s) 64 (flat_picture l.g) l.initial.out l.out l.buf l.t l.b

abbrev pub decreases-loop-b : goal.decreases-loop-b
decreases-loop-b l = l.g.down * l.g.across - l.b
