use Rattle.clip.specs.Feed.{finish_of}
use Rattle.clip_reader.proofs.finish.Goals as goal

-- src/lib.rt:394:1
pub returns : goal.returns
unfolding finish_of
returns c = rw (c.enter.ensures, c.finish_number-number.ensures)
