use mathlib.Core.Path.{◌≡◌, refl}
use native.Mathlib.Omega.{arith}
use Rattle.interpolation.specs.declared.Kind.TheVariants.{Unorm16}
use Rattle.interpolation.specs.Expansion.{shown_of}
use Rattle.picture_regions.proofs.Regions.{pasted_none}
use Rattle.texel_fill.proofs.Filling.{pasted_texel}
use Rattle.texel_fill.proofs.few_numbers.Goals as goal

pub loop-i-preserved : goal.loop-i-preserved
loop-i-preserved c =
    let l = c.loop-i in
    let s = c.before.before.before.before.before.before.before in
    rw c.put_numbers.ensures (pasted_texel (shown_of Unorm16) s.args.t _ s.args.at l.i l.out (omega (arith, s.requires)) (omega (arith, s.requires)) refl refl refl refl l.invariant)

pub returns : goal.returns
returns c = let l = c.loop-i in let e : c.args.n ≡ l.i = omega arith in rw e l.invariant

pub loop-i-init : goal.loop-i-init
loop-i-init c = pasted_none _ _ _ _ _
