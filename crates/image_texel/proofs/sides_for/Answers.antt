use mathlib.Core.Path.{refl, sym, ◌∙◌}
use Rattle.reason.proofs.Answers.{refused_is, accepted}
use Rattle.image_texel.proofs.Ask.{refused_sides, taken_sides}
use Rattle.image_texel.proofs.sides_for.Goals as goal

pub returns-in-Err : goal.returns-in-Err
returns-in-Err c =
    let k = refused_is c.in-Err.is c.check_view.ensures in
    refused_sides _ _ _ _ _ (sym k.0) (λ z. k.1 (k.0 ∙ z))

pub returns-in-Ok : goal.returns-in-Ok
returns-in-Ok c = taken_sides _ _ _ _ 0 (accepted c.in-Ok.is c.check_view.ensures) refl
