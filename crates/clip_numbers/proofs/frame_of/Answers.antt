use Rattle.clip_numbers.specs.Numbers.{frame_from}
use Rattle.clip_numbers.proofs.frame_of.Goals as goal

pub returns : goal.returns
unfolding frame_from
returns c = rw (c.low.ensures, c.low-2.ensures)
