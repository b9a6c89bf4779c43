-- `hdr_endpoint::large_range` meets its contract.
use borrow.Author.Tests.{le-leb, lt-leb}
use Rattle.hdr_endpoint.specs.Luminance.{large_range}
use borrow.Author.Rules.{rules}
use Rattle.hdr_endpoint.proofs.large_range.Goals as goal

pub returns-then-x-y : goal.returns-then-x-y
unfolding large_range
returns-then-x-y c = rw (le-leb _ _ c.if-x-y.true) c.grey.ensures

pub returns-else-x-y : goal.returns-else-x-y
unfolding large_range
returns-else-x-y c = rw (lt-leb _ _ c.if-x-y.false) c.grey-else-x-y.ensures
