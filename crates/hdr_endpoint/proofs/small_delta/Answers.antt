-- `hdr_endpoint::small_delta` meets its contract.
use native.Mathlib.Omega.{arith}
use borrow.Author.Tests.{le-leb, lt-leb}
use Rattle.hdr_endpoint.specs.Luminance.{small_delta}
use borrow.Author.Rules.{rules}
use Rattle.hdr_endpoint.proofs.small_delta.Goals as goal

pub returns-then-v0-ge128 : goal.returns-then-v0-ge128
unfolding small_delta
returns-then-v0-ge128 c = (rw (c.wide-y.ensures.0, le-leb 128 _ c.if-v0-ge128.true), omega arith)

pub returns-else-v0-ge128 : goal.returns-else-v0-ge128
unfolding small_delta
returns-else-v0-ge128 c = (rw (c.wide-y.ensures.0, lt-leb 128 _ c.if-v0-ge128.false), omega arith)
