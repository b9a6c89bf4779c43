use Prim.Native.Nat.{◌*◌, ◌-◌}
use Rattle.interpolation.specs.declared.Kind.TheVariants.{Srgb8}
use Rattle.volume_layout.proofs.Parts.{Decoding}
use Rattle.volume.proofs.decode_bytes.Given as goal

abbrev pub invariant-loop-b : goal.invariant-loop-b
invariant-loop-b l = Decoding l.reading Srgb8 l.g l.s l.initial.out l.out l.buf l.t l.b

abbrev pub decreases-loop-b : goal.decreases-loop-b
decreases-loop-b l = l.g.deep * l.g.down * l.g.across - l.b
