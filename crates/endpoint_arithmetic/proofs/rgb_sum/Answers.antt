-- `endpoint_arithmetic::rgb_sum` meets its contract.
use Rattle.endpoint_arithmetic.specs.Pair.{rgb_sum}
use borrow.Author.Rules.{rules}
use Rattle.endpoint_arithmetic.proofs.rgb_sum.Goals as goal

pub returns : goal.returns
unfolding rgb_sum
returns c = cc
