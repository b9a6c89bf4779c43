-- `half_float::lns_value` meets its contract.
use Rattle.half_float.specs.Half.{lns_value}
use borrow.Author.Rules.{rules}
use Rattle.half_float.proofs.lns_value.Goals as goal

pub returns : goal.returns
unfolding lns_value
returns c = rw c.mantissa.ensures.0
