use Rattle.symbolic_reader.proofs.told.Goals as goal

pub returns : goal.returns
returns c = rw (c.zero_block.ensures, c.no_spare.ensures)
