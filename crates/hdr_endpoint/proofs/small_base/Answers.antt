-- `hdr_endpoint::small_base` meets its contract.
use native.Mathlib.Omega.{arith}
use borrow.Author.Tests.{le-leb, lt-leb}
use Rattle.hdr_endpoint.specs.Luminance.{small_base}
use mathlib.Core.Path.{◌≡◌}
use Prim.Native.Nat.{◌≤◌, ◌<◌}
use borrow.Author.Rules.{rules}
use Rattle.hdr_endpoint.proofs.small_base.Goals as goal

pub returns-then-x-ge128 : goal.returns-then-x-ge128
unfolding small_base
returns-then-x-ge128 c =
    let e = c.wide-x.ensures.0 in
    let h : 128 ≤ c.args.v0 = omega (arith, e) in
    (rw (e, c.wide-y.ensures.0, le-leb 128 _ h), omega arith)

pub returns-else-x-ge128 : goal.returns-else-x-ge128
unfolding small_base
returns-else-x-ge128 c =
    let e = c.wide-x.ensures.0 in
    let h : c.args.v0 < 128 = omega (arith, e) in
    (rw (e, c.wide-y.ensures.0, lt-leb 128 _ h), omega arith)
