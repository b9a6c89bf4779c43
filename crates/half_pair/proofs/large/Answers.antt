-- `half_pair::large` meets its contract.
use mathlib.Core.Path.{sym, subst}
use native.Mathlib.Omega.{arith}
use Rattle.hdr_endpoint.proofs.Bounds.{large_twelve}
use Rattle.hdr_endpoint.specs.inner.Bounds.{Twelve}
use Rattle.half_pair.proofs.large.Goals as goal

pub returns : goal.returns
returns c = let e = c.large_range.ensures in (e, subst Twelve (sym e) (large_twelve _ _ (omega arith) (omega arith)))
