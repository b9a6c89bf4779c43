use Rattle.bc7_calls.specs.Calls.{nothing}
use Rattle.bc7_calls.proofs.told.Goals as goal

pub returns : goal.returns
unfolding nothing
returns c = rw c.zero_block-block.ensures
