use mathlib.Core.Path.{◌∙◌}
use Rattle.laws.specs.Table.{Bytes}
use Rattle.bc7_calls.proofs.Laws.{wrong_length, right_length, reading_told}
use Rattle.bc7_calls.proofs.read_bc7.Goals as goal

pub returns-then-block-ne16 : goal.returns-then-block-ne16
returns-then-block-ne16 c = let e = c.told.ensures ∙ wrong_length _ c.if-block-ne16.true in record { value = e; answer_value = reading_told _ _ e }

pub returns : goal.returns
returns c = let bytes : Bytes c.args.block.now = λ i. (c.shared_slice_known-1.given i).fits in let e = c.read_number.ensures ∙ right_length _ _ c.if-block-ne16.false bytes c.load.ensures in record { value = e; answer_value = reading_told _ _ e }
