use Rattle.canonical_image.proofs.Laws.{one_1, one_4, one_5, one_none}
use Rattle.canonical_image.proofs.check_block.Goals as goal

pub returns-then-fp-gt23 : goal.returns-then-fp-gt23
returns-then-fp-gt23 c = one_1 _ _ _ c.if-fp-gt23.true

pub returns-then-bytes-ne16 : goal.returns-then-bytes-ne16
returns-then-bytes-ne16 c = one_4 _ _ _ c.if-fp-gt23.false c.if-bytes-ne16.true

pub returns-then-places-ne16 : goal.returns-then-places-ne16
returns-then-places-ne16 c = one_5 _ _ _ c.if-fp-gt23.false c.if-bytes-ne16.false c.if-places-ne16.true

pub returns : goal.returns
returns c = one_none _ _ _ c.if-fp-gt23.false c.if-bytes-ne16.false c.if-places-ne16.false
