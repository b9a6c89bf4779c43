-- `endpoint_arithmetic::blue_of` meets its contract.
use Rattle.endpoint_arithmetic.specs.Pair.{blue_of}
use borrow.Author.Rules.{rules}
use Rattle.endpoint_arithmetic.proofs.blue_of.Goals as goal

pub returns : goal.returns
unfolding blue_of
returns c = cc
