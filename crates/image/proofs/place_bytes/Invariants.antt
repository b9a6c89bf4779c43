use Prim.Native.Nat.{◌-◌}
use Rattle.interpolation.specs.declared.Kind.TheVariants.{Srgb8}
use Rattle.interpolation.specs.Expansion.{shown_of}
use Rattle.image_layout.proofs.Parts.{Placing}
use Rattle.image.proofs.place_bytes.Given as goal

abbrev pub invariant-loop-dy : goal.invariant-loop-dy
invariant-loop-dy l = Placing (shown_of Srgb8) l.g l.p l.buf l.initial.out l.out l.dy

abbrev pub decreases-loop-dy : goal.decreases-loop-dy
decreases-loop-dy l = l.dy-end - l.dy
