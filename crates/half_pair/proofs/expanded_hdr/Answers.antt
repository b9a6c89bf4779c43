-- `half_pair::expanded_hdr` meets its contract.
use Rattle.half_pair.specs.Pair.{expanded_hdr}
use Rattle.half_pair.proofs.expanded_hdr.Goals as goal

pub returns : goal.returns
unfolding expanded_hdr
returns c = rw (c.hdr_end-c0.ensures, c.hdr_end-c1.ensures)
