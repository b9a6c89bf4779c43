-- `endpoint_arithmetic::contracted_pair` meets its contract.
use Rattle.endpoint_arithmetic.specs.Pair.{contracted_pair}
use borrow.Author.Rules.{rules}
use Rattle.endpoint_arithmetic.proofs.contracted_pair.Goals as goal

pub returns : goal.returns
unfolding contracted_pair
returns c = cc
