use Rattle.symbolic_block.specs.Refusals.{bad_weights}
use Rattle.symbolic_refusal.proofs.bad_weights.Goals as goal

pub returns : goal.returns
unfolding bad_weights
returns c = rw (c.stored_within.ensures, c.wide-most.ensures, c.most_at.ensures, c.weight_count-count.ensures.0, c.grid_of.ensures)
