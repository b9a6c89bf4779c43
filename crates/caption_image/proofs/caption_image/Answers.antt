use mathlib.Core.Path.{sym, ◌∙◌}
use native.Mathlib.Omega.{arith}
use Rattle.std.proofs.lemmas.Result.{err_from_is_err_and}
use Rattle.reason.proofs.Told.{refusal_some}
use Rattle.caption_image.proofs.Laws.{accepted, lent, untouched, written}
use Rattle.caption_image.proofs.caption_image.Goals as goal

pub returns-in_err-check : goal.returns-in_err-check
returns-in_err-check c =
    let p = err_from_is_err_and c.from_residual.result c.from_residual.ensures.1 in
    let e = c.in_err-check.ensures in
    rw (p.1, p.2) (record { value = e; blocks_after = untouched _ _ _ _ _ _ (λ z. let k = refusal_some c.in_err-check.field-0.0 in omega (arith, e ∙ z)) })

pub blocks_across-across-requires : goal.blocks_across-across-requires
blocks_across-across-requires c =
    let a = accepted _ _ _ _ (sym c.in_ok-check.ensures) in
    (omega arith, (lent _ _ _ a.wide a.high a.exact_greys).w_most)

pub fill-requires : goal.fill-requires
fill-requires c =
    let a = accepted _ _ _ _ (sym c.in_ok-check.ensures) in
    record { lent = lent _ _ _ a.wide a.high a.exact_greys; across_value = c.blocks_across-across.ensures.0; out_len = a.exact_bytes }

pub returns : goal.returns
returns c = record { value = c.in_ok-check.ensures; blocks_after = c.fill.ensures ∙ written _ _ _ _ _ _ (sym c.in_ok-check.ensures) }
