use Prim.Native.Nat.{◌-◌}
use Rattle.interpolation.specs.declared.Kind.TheVariants.{Srgb8}
use Rattle.interpolation.specs.Expansion.{shown_of}
use Rattle.volume.proofs.Placing.{Layers, Rows}
use Rattle.volume.proofs.place_bytes.Given as goal

abbrev pub invariant-loop-dy : goal.invariant-loop-dy
invariant-loop-dy l = Rows (shown_of Srgb8) l.g l.p l.buf l.dz l.initial.out l.out l.dy

abbrev pub decreases-loop-dy : goal.decreases-loop-dy
decreases-loop-dy l = l.p.rows - l.dy

abbrev pub invariant-loop-dz : goal.invariant-loop-dz
invariant-loop-dz l = Layers (shown_of Srgb8) l.g l.p l.buf l.initial.out l.out l.dz

abbrev pub decreases-loop-dz : goal.decreases-loop-dz
decreases-loop-dz l = l.p.layers - l.dz
