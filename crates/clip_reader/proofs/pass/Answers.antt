use Rattle.std.proofs.Common.{le-ltb, lt-ltb}
use Rattle.clip.specs.Step.{past}
use Rattle.clip_reader.proofs.pass.Goals as goal

-- src/lib.rt:291:1
pub returns-then-c : goal.returns-then-c
unfolding past
returns-then-c c = rw (c.next_block.ensures, lt-ltb _ _ c.if-c.true)

-- src/lib.rt:291:1
pub returns-else-c : goal.returns-else-c
unfolding past
returns-else-c c = rw (c.next_frame.ensures, le-ltb _ _ c.if-c.false)
