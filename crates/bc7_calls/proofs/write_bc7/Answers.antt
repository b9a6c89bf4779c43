use mathlib.Core.Path.{refl, sym, ◌∙◌}
use native.Mathlib.Omega.{arith}
use Rattle.reason.proofs.Told.{refusal_some}
use Rattle.bc7_calls.proofs.Laws.{not_written, stored, writing_told}
use Rattle.bc7_calls.proofs.write_bc7.Goals as goal

pub returns-in-Err : goal.returns-in-Err
returns-in-Err c =
    let e = c.refused.ensures ∙ not_written _ _ (c.into.ensures ∙ c.in-Err.ensures) (λ z. omega (arith, refusal_some c.in-Err.refusal, c.into.ensures, z)) in
    record { value = e; answer_value = writing_told _ _ e }

pub block_of-requires : goal.block_of-requires
block_of-requires c = sym c.in-Ok.ensures

pub returns-in-Ok : goal.returns-in-Ok
returns-in-Ok c = let e = stored _ _ _ _ c.in-Ok.ensures refl c.block_of.ensures c.store.ensures in record { value = e; answer_value = writing_told _ _ e }
