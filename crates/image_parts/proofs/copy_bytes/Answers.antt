use Prim.Native.Nat.{◌-◌}
use native.Mathlib.Omega.{arith}
use Rattle.interpolation.specs.declared.Kind.TheVariants.{Srgb8}
use Rattle.interpolation.specs.Expansion.{shown_of}
use Rattle.picture_regions.proofs.Regions.{pasting_none, pasting_more, pasting_all}
use Rattle.image_parts.proofs.copy_bytes.Goals as goal

pub loop-i-init : goal.loop-i-init
loop-i-init c = pasting_none _ _ _ _ _ _

pub loop-i-preserved : goal.loop-i-preserved
loop-i-preserved c = pasting_more (shown_of Srgb8) _ _ _ _ _ (omega arith) (omega arith) c.top_byte.ensures c.loop-i.invariant

pub shape_of-out : goal.shape_of-out
shape_of-out c = c.loop-i.invariant.same

pub returns : goal.returns
returns c = pasting_all (shown_of Srgb8) _ _ _ _ (omega arith) c.loop-i.invariant
