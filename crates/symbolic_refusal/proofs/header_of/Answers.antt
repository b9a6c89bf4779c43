use Rattle.symbolic_refusal.proofs.header_of.Goals as goal

pub returns : goal.returns
returns c = rw c.grid_of-grid.ensures
