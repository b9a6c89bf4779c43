use Rattle.half_pair.proofs.zero_half.Goals as goal

pub returns : goal.returns
returns c = rw (c.expanded_ldr.ensures, c.zero_pair.ensures)
