-- `endpoint_arithmetic::scaled_pair` meets its contract.
use Rattle.endpoint_arithmetic.specs.Pair.{scaled_pair}
use borrow.Author.Rules.{rules}
use Rattle.endpoint_arithmetic.proofs.scaled_pair.Goals as goal

pub returns : goal.returns
unfolding scaled_pair
returns c = cc
