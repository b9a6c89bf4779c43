-- `half_pair::small` meets its contract.
use mathlib.Core.Path.{sym, subst}
use native.Mathlib.Omega.{arith}
use Rattle.hdr_endpoint.proofs.Bounds.{small_twelve}
use Rattle.hdr_endpoint.specs.inner.Bounds.{Twelve}
use Rattle.half_pair.proofs.small.Goals as goal

pub returns : goal.returns
returns c = let e = c.small_range.ensures in (e, subst Twelve (sym e) (small_twelve _ _ (omega arith)))
