-- `hdr_endpoint::small_range` meets its contract.
use native.Mathlib.Omega.{arith}
use mathlib.Core.Path.{◌≡◌}
use Prim.Native.Nat.{ℕ, ◌+◌, ◌-◌, min}
use Rattle.hdr_endpoint.specs.Luminance.{grey_pair, small_range}
use borrow.Author.Rules.{rules}
use Rattle.hdr_endpoint.proofs.small_range.Goals as goal

less_none : {n : ℕ} → n - 0 ≡ n
less_none = omega arith

pub returns : goal.returns
unfolding small_range
returns c =
    let b = c.before.before in
    rw (c.grey.ensures, c.clamp-y1.ensures.0, b.small_delta.ensures.0, b.small_base-y0.ensures.0, less_none)
