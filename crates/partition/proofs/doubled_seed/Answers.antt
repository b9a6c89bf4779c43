-- `partition::doubled_seed` meets its contract. Assumes nothing.
use Rattle.partition.specs.Select.{doubled}
use Rattle.partition.proofs.doubled_seed.Goals as goal

pub returns-then-small : goal.returns-then-small
unfolding doubled
returns-then-small c = rw c.if-small.true

pub returns-else-small : goal.returns-else-small
unfolding doubled
returns-else-small c = rw c.if-small.false
