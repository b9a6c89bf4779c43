use Rattle.std.proofs.Common.{refl}
use Rattle.clip_reader.proofs.Feeding.{by_phase}
use Rattle.clip_reader.proofs.feed.Goals as goal

-- src/lib.rt:389:26
pub feed_blocks-requires : goal.feed_blocks-requires
feed_blocks-requires c = c.in-Blocks.is

-- src/lib.rt:382:1
pub returns-in-Version : goal.returns-in-Version
returns-in-Version c = by_phase _ _ _ _ c.in-Version.is c.go_on.ensures

-- src/lib.rt:382:1
pub returns-in-Header : goal.returns-in-Header
returns-in-Header c = by_phase _ _ _ _ c.in-Header.is c.go_on-in-Header.ensures

-- src/lib.rt:382:1
pub returns-in-Blocks : goal.returns-in-Blocks
returns-in-Blocks c = by_phase _ _ _ _ c.in-Blocks.is c.feed_blocks.ensures

-- src/lib.rt:382:1
pub returns-in-Over : goal.returns-in-Over
returns-in-Over c = by_phase _ _ _ _ c.in-Over.is refl
