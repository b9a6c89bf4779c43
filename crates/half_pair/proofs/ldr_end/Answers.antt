-- `half_pair::ldr_end` meets its contract.
use Rattle.half_pair.specs.Pair.{expand_half, half_end}
use Rattle.interpolation.specs.Expansion.{replicated}
use Rattle.half_pair.proofs.ldr_end.Goals as goal

pub returns : goal.returns
unfolding half_end expand_half replicated
returns c = rw (c.wide.ensures.0, c.wide-2.ensures.0, c.wide-3.ensures.0, c.wide-4.ensures.0)
