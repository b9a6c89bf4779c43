use Rattle.symbolic_block.specs.Refusals.{bad_index}
use Rattle.symbolic_refusal.proofs.bad_index.Goals as goal

pub returns : goal.returns
unfolding bad_index
returns c = rw c.most_by.ensures
