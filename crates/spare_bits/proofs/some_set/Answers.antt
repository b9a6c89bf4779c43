use Rattle.spare_bits.proofs.Leftover.{low_set, high_set}
use borrow.Author.Rules.{rules}
use Rattle.spare_bits.proofs.some_set.Goals as goal

pub returns-then-lo-ne0 : goal.returns-then-lo-ne0
returns-then-lo-ne0 c = low_set _ _ _ _ c.part-part.ensures c.if-lo-ne0.true

pub returns : goal.returns
returns c = high_set _ _ _ _ c.part-part.ensures c.if-lo-ne0.false
