use mathlib.Core.Path.{sym, ap, ◌∙◌}
use native.Mathlib.Omega.{arith}
use Rattle.reason.specs.Numbers.{refusal_number}
use Rattle.reason.proofs.Told.{refusal_some}
use Rattle.image_texel.specs.Making.{reason_told}
use Rattle.image_texel.proofs.Ask.{refused_sides}
use Rattle.view.specs.View.{view_with, view_of}
use Rattle.view.proofs.Made.{made_views}
use Rattle.view.proofs.make_checked.Goals as goal

pub returns-in-Some : goal.returns-in-Some
unfolding view_of
returns-in-Some c =
    let a = c.args in
    let r = c.in-Some.refusal in
    let q = ap reason_told (sym c.in-Some.is) ∙ made_views.told c.make-view.result a.blocks a.footprint a.width a.height c.make-view.ensures in
    ap (view_with a.blocks a.footprint) (refused_sides _ _ _ _ (refusal_number r) q (λ z. let k = refusal_some r in omega (arith, k, z)))
