use mathlib.Core.Path.{◌∙◌}
use Rattle.clip_frame.proofs.Refusals.{own_1, own_2, own_3}
use Rattle.clip_frame.proofs.check_own.Goals as goal

pub returns : goal.returns
returns c = c.check_size.ensures ∙ own_3 _ c.if-f-gt13.false c.if-f-gt2.false

pub returns-then-f-gt13 : goal.returns-then-f-gt13
returns-then-f-gt13 c = own_1 _ c.if-f-gt13.true

pub returns-then-f-gt2 : goal.returns-then-f-gt2
returns-then-f-gt2 c = own_2 _ c.if-f-gt13.false c.if-f-gt2.true
