use borrow.Author.Tests.{lt-ltb, le-ltb}
use Rattle.pvrtc_image.proofs.own_word.Goals as goal

pub returns-then-p-lt2 : goal.returns-then-p-lt2
returns-then-p-lt2 c = rw (lt-ltb _ 2 c.if-p-lt2.true)

pub returns-else-p-lt2 : goal.returns-else-p-lt2
returns-else-p-lt2 c = rw (le-ltb _ 2 c.if-p-lt2.false)
