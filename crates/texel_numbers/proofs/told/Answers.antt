use mathlib.Core.Path.{refl, ◌∙◌}
use native.Mathlib.Omega.{arith}
use Rattle.reason.proofs.Told.{refusal_some}
use Rattle.texel_numbers.proofs.Put.{told_refused_lem, told_short, told_fault}
use Rattle.texel_numbers.proofs.told.Goals as goal

pub returns-in-Err : goal.returns-in-Err
returns-in-Err c = c.into.ensures ∙ rw c.in-Err.is (told_refused_lem _ _ (λ z. omega (arith, refusal_some c.in-Err.refusal, z)))

pub returns-in-Ok : goal.returns-in-Ok
returns-in-Ok c = rw c.in-Ok.is (told_short _ _ refl c.if-places-ne4.true)

pub returns-in-Ok-2 : goal.returns-in-Ok-2
returns-in-Ok-2 c = rw c.in-Ok-2.is (told_fault _ _ refl c.if-places-ne4.false)
