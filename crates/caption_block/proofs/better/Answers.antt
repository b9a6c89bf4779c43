use borrow.Author.Tests.{lt-ltb, le-ltb}
use Rattle.caption_block.specs.inner.Choice.{better_of}
use Rattle.caption_block.proofs.better.Goals as goal

pub returns-then-square-c : goal.returns-then-square-c
unfolding better_of
returns-then-square-c c = rw (lt-ltb _ _ c.if-square-c.true)

pub returns : goal.returns
unfolding better_of
returns c = rw (le-ltb _ _ c.if-square-c.false)
