use Rattle.symbolic_block.specs.Refusals.{some_in_use}
use Rattle.symbolic_refusal.specs.inner.Stages.{numbers_in_use}
use Rattle.symbolic_refusal.proofs.numbers_in_use.Goals as goal

pub returns : goal.returns
unfolding numbers_in_use some_in_use
returns c = rw (c.stored_within-weights.ensures, c.stored_within-endpoints.ensures, c.modes_within-modes.ensures)
