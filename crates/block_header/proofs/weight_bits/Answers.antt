use Rattle.block_header.specs.Counts.{weight_bits}
use Rattle.block_header.proofs.weight_bits.Goals as goal

pub returns : goal.returns
unfolding weight_bits
returns c = rw (c.range_bits.ensures, c.weight_count.ensures.0)
