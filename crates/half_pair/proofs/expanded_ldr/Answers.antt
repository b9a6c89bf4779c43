-- `half_pair::expanded_ldr` meets its contract.
use Rattle.half_pair.specs.Pair.{expanded_ldr}
use Rattle.half_pair.proofs.expanded_ldr.Goals as goal

pub returns : goal.returns
unfolding expanded_ldr
returns c = rw (c.ldr_end-c0.ensures, c.ldr_end-c1.ensures)
