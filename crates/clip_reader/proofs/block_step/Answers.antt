use Rattle.std.proofs.Common.{le-ltb, lt-ltb}
use Rattle.clip.specs.Step.{block_step}
use Rattle.clip_reader.proofs.block_step.Goals as goal

-- src/lib.rt:294:1
pub returns-then-c-lt15 : goal.returns-then-c-lt15
unfolding block_step
returns-then-c-lt15 c = rw (c.hold.ensures, lt-ltb _ 15 c.if-c-lt15.true)

-- src/lib.rt:294:1
pub returns-else-c-lt15 : goal.returns-else-c-lt15
unfolding block_step
returns-else-c-lt15 c = rw (c.hand.ensures, c.with.ensures, le-ltb _ 15 c.if-c-lt15.false)
