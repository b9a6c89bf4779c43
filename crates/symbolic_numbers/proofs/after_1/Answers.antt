use borrow.Author.Tests.{lt-ltb, le-ltb}
use Rattle.symbolic_block.specs.Refusals.{unknown_footprint}
use Rattle.symbolic_numbers.proofs.after_1.Goals as goal

pub returns-then-footprint-gt23 : goal.returns-then-footprint-gt23
unfolding unknown_footprint
returns-then-footprint-gt23 c = rw (lt-ltb 23 _ c.if-footprint-gt23.true)

pub returns-else-footprint-gt23 : goal.returns-else-footprint-gt23
unfolding unknown_footprint
returns-else-footprint-gt23 c = rw (le-ltb 23 _ c.if-footprint-gt23.false)
