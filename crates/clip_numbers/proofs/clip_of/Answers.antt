use Rattle.clip_numbers.specs.Numbers.{clip_of}
use Rattle.clip_numbers.proofs.clip_of.Goals as goal

pub returns : goal.returns
unfolding clip_of
returns c = rw (c.phase_of.ensures, c.low.ensures, c.held_of.ensures, c.frame_of.ensures)
