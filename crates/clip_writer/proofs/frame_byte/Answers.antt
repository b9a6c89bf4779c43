use Rattle.clip_writer.proofs.Writing.{at_head, at_rest}
use Rattle.clip_writer.proofs.frame_byte.Goals as goal

pub returns-then-k-lt10 : goal.returns-then-k-lt10
returns-then-k-lt10 c = let a = c.args in at_head a.head.now a.blocks.now a.k c.requires.0 c.if-k-lt10.true

pub returns-else-k-lt10 : goal.returns-else-k-lt10
returns-else-k-lt10 c = let a = c.args in at_rest a.head.now a.blocks.now a.k c.requires.0 c.if-k-lt10.false
