use Prim.Native.Nat.{◌*◌}
use Rattle.interpolation.specs.declared.Kind.TheVariants.{Unorm16}
use Rattle.interpolation.specs.Expansion.{shown_of}
use Rattle.picture_regions.specs.inner.Regions.{Pasted}
use Rattle.texel_fill.specs.inner.Everywhere.{everywhere}
use Rattle.texel_fill.proofs.few_numbers.Given as goal

abbrev pub invariant-loop-i : goal.invariant-loop-i
invariant-loop-i l = Pasted (shown_of Unorm16) (everywhere l.t) 0 (4 * l.i) l.initial.out l.at l.out
