use Rattle.block_header.specs.Counts.{endpoint_range_of}
use Rattle.block_header.proofs.endpoint_range_of.Goals as goal

pub returns : goal.returns
unfolding endpoint_range_of
returns c = rw (c.endpoint_range.ensures, c.bits_left.ensures.0, c.endpoint_count.ensures.0)
