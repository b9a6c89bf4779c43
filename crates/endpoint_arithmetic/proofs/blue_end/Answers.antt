-- `endpoint_arithmetic::blue_end` meets its contract.
use Rattle.endpoint_arithmetic.specs.Signed.{blue_end}
use borrow.Author.Rules.{rules}
use Rattle.endpoint_arithmetic.proofs.blue_end.Goals as goal

pub returns : goal.returns
unfolding blue_end
returns c = rw (c.plain_end.ensures, c.contract-2.ensures, c.contract.ensures)
