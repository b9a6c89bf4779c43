use mathlib.Core.Path.{◌∙◌}
use Rattle.image_numbers.proofs.Laws.{untold, telling, told_refusal}
use Rattle.stallbrook_bc7.proofs.stallbrook_bc7_decode_image.Goals as goal

pub returns-then-tally-ne3 : goal.returns-then-tally-ne3
returns-then-tally-ne3 c =
    let it = untold _ _ _ _ _ c.if-tally-ne3.true (c.into.ensures ∙ c.refusal_or_5.ensures) in
    record { value = it.0; out_after = it.1.0; tally_after = it.1.1 }

pub returns : goal.returns
returns c =
    let r = c.decode_image_bc7-answer.ensures in
    let it = telling _ _ _ c.args.out.now c.args.tally.now c.if-tally-ne3.false r.told (c.refusal_told.ensures ∙ told_refusal _) r.image c.tally_told.ensures c.put_tally.ensures in
    record { value = it.0; out_after = it.1.0; tally_after = it.1.1 }
