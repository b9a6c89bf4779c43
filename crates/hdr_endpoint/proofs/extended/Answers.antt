-- `hdr_endpoint::extended` meets its contract.
use Prim.Native.Nat.{◌%◌, ◌≤◌}
use native.Mathlib.Nat.{mod-le}
use native.Mathlib.Omega.{arith}
use Rattle.hdr_endpoint.proofs.Laws.{extended_steps}
use borrow.Author.Rules.{rules}
use Rattle.hdr_endpoint.proofs.extended.Goals as goal

pub shifted-up-requires : goal.shifted-up-requires
shifted-up-requires c =
    let m = mod-le c.wide.result c.shifted.result in
    (omega (arith, m), omega arith)

pub returns : goal.returns
returns c =
    let x3 = c.before.before.before in
    let m = mod-le x3.wide.result x3.shifted.result in
    let up : c.shifted-up.result ≤ 5000000 = omega (arith, m) in (
      extended_steps _ _ _ x3.wide.ensures.0 x3.shifted.ensures.0 x3.bit.ensures.0 c.shifted-high.ensures.0
          c.shifted-up.ensures.0 c.shifted-down.ensures.0,
      up,
      omega arith,
    )
