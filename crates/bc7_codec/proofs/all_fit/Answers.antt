use mathlib.Core.Path.{◌≡◌, refl, ◌∙◌}
use native.Mathlib.Omega.{arith}
use native.Mathlib.Numerals.{add-one}
use Rattle.bc7_layout.proofs.Tables.{width_most}
use Rattle.bc7_codec.proofs.all_fit.Goals as goal

pub loop-k-init : goal.loop-k-init
loop-k-init c = refl

pub fits_width-requires : goal.fits_width-requires
fits_width-requires c = rw c.width_of-w.ensures.0 (width_most _ _ _ c.requires.0)

pub loop-k-preserved : goal.loop-k-preserved
loop-k-preserved c = c.both-ok.ensures ∙ rw (c.fits_width.ensures, c.width_of-w.ensures.0, c.loop-k.invariant, add-one c.loop-k.k)

pub returns : goal.returns
returns c = let e : c.loop-k.k ≡ 60 = omega arith in rw (c.loop-k.invariant, e)
