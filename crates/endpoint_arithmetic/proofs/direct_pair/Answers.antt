-- `endpoint_arithmetic::direct_pair` meets its contract.
use Rattle.endpoint_arithmetic.specs.Pair.{direct_pair}
use Rattle.endpoint_arithmetic.specs.Pair.{direct_pair}
use borrow.Author.Tests.{le-leb, lt-leb}
use borrow.Author.Rules.{rules}
use Rattle.endpoint_arithmetic.proofs.direct_pair.Goals as goal

pub returns-then-rgb_sum : goal.returns-then-rgb_sum
unfolding direct_pair
returns-then-rgb_sum c = rw (← c.rgb_sum.ensures, ← c.rgb_sum-2.ensures, le-leb _ _ c.if-rgb_sum.true)

pub returns-else-rgb_sum : goal.returns-else-rgb_sum
unfolding direct_pair
returns-else-rgb_sum c =
    let d = c.before.before in
    rw (← d.rgb_sum.ensures, ← d.rgb_sum-2.ensures, lt-leb _ _ d.if-rgb_sum.false, c.blue_of.ensures, c.blue_of-else-rgb_sum.ensures)
