use Prim.Native.Nat.{◌-◌}
use Rattle.interpolation.specs.declared.Kind.TheVariants.{Unorm16}
use Rattle.interpolation.specs.Expansion.{shown_of}
use Rattle.picture_regions.proofs.Regions.{Pasting}
use Rattle.image_parts.proofs.copy_numbers.Given as goal

abbrev pub invariant-loop-i : goal.invariant-loop-i
invariant-loop-i l = Pasting (shown_of Unorm16) l.src l.from l.initial.out l.at l.i-end l.out l.i

abbrev pub decreases-loop-i : goal.decreases-loop-i
decreases-loop-i l = l.i-end - l.i
