use mathlib.Core.Path.{sym, ◌∙◌}
use Rattle.laws.specs.Table.{tab}
use Rattle.reason.proofs.Answers.{refused_is, accepted}
use Rattle.symbolic_calls.proofs.Laws.{promised, told, stored}
use Rattle.symbolic_calls.proofs.write_symbolic.Goals as goal

pub returns-in-Err : goal.returns-in-Err
unfolding tab
returns-in-Err c =
    let k = refused_is c.in-Err.is c.refusal.ensures in
    let it = promised c.args.fp c.args.s _ (told c.args.fp c.args.s _ (c.into.ensures ∙ sym k.0) (λ z. k.1 (k.0 ∙ sym c.into.ensures ∙ z))) in
    record { value = it.0; answer_value = it.1 }

pub block_of-requires : goal.block_of-requires
block_of-requires c = sym (accepted c.in_default.is c.refusal.ensures)

pub returns : goal.returns
returns c =
    let it = promised c.args.fp c.args.s _ (stored c.args.fp c.args.s _ _ (sym (accepted c.in_default.is c.refusal.ensures)) c.block_of.ensures c.store-bytes.ensures) in
    record { value = it.0; answer_value = it.1 }
