use mathlib.Core.Path.{refl}
use native.Mathlib.Omega.{arith}
use Rattle.picture_regions.proofs.Regions.{pasting_none, pasting_more, pasting_all}
use Rattle.bc7_image.proofs.copy_some.Goals as goal

pub loop-i-init : goal.loop-i-init
loop-i-init c = pasting_none _ _ _ _ _ _

pub loop-i-preserved : goal.loop-i-preserved
loop-i-preserved c = pasting_more (λ n. n) _ _ _ _ _ (omega arith) (omega arith) refl c.loop-i.invariant

pub shape_of-out : goal.shape_of-out
shape_of-out c = c.loop-i.invariant.same

pub returns : goal.returns
returns c = pasting_all (λ n. n) _ _ _ _ (omega arith) c.loop-i.invariant
