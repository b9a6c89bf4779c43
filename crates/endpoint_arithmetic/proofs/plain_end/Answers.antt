-- `endpoint_arithmetic::plain_end` meets its contract.
use Rattle.endpoint_arithmetic.specs.Signed.{plain_end}
use borrow.Author.Rules.{rules}
use Rattle.endpoint_arithmetic.proofs.plain_end.Goals as goal

pub returns : goal.returns
unfolding plain_end
returns c = cc
