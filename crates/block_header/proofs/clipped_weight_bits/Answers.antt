use Rattle.block_header.proofs.clipped_weight_bits.Goals as goal

pub returns : goal.returns
returns c = (rw (c.clipped.ensures.0, c.weight_bits.ensures), c.clipped.ensures.1)
