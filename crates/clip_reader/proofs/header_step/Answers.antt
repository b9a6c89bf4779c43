use Rattle.std.proofs.Common.{le-ltb, lt-ltb}
use Rattle.clip.specs.Step.{header_step}
use Rattle.clip_reader.proofs.header_step.Goals as goal

-- src/lib.rt:244:1
pub returns-then-c-lt9 : goal.returns-then-c-lt9
unfolding header_step
returns-then-c-lt9 c = rw (c.hold.ensures, lt-ltb _ 9 c.if-c-lt9.true)

-- src/lib.rt:244:1
pub returns-else-c-lt9 : goal.returns-else-c-lt9
unfolding header_step
returns-else-c-lt9 c = rw (c.check.ensures, c.with.ensures, le-ltb _ 9 c.if-c-lt9.false)
