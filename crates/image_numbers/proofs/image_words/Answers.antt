use mathlib.Core.Path.{◌∙◌}
use Rattle.image_numbers.proofs.Laws.{untold, telling, told_refusal}
use Rattle.image_numbers.proofs.image_words.Goals as goal

pub returns-then-tally-ne3 : goal.returns-then-tally-ne3
returns-then-tally-ne3 c = let it = untold _ _ _ _ _ c.if-tally-ne3.true (c.into.ensures ∙ c.refusal_or_5.ensures) in record { value = it.0; out_after = it.1.0; tally_after = it.1.1 }

pub returns : goal.returns
returns c = let p = c in let d = p in let r = d.decode_words_in-answer.ensures in let a = d.args in let it = telling _ _ _ a.out.now a.tally.now d.if-tally-ne3.false r.told (c.refusal_told.ensures ∙ told_refusal _) r.image p.tally_told.ensures p.put_tally.ensures in record { value = it.0; out_after = it.1.0; tally_after = it.1.1 }
