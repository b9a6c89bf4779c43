-- `endpoint_arithmetic::raised_pair` meets its contract.
use Rattle.endpoint_arithmetic.specs.Pair.{raised_pair}
use borrow.Author.Rules.{rules}
use Rattle.endpoint_arithmetic.proofs.raised_pair.Goals as goal

pub returns : goal.returns
unfolding raised_pair
returns c = cc
