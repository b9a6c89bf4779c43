-- `half_pair::scale` meets its contract.
use mathlib.Core.Path.{sym, subst}
use Rattle.hdr_endpoint.proofs.Bounds.{scale_twelve}
use Rattle.hdr_endpoint.specs.inner.Bounds.{Twelve}
use Rattle.half_pair.proofs.scale.Goals as goal

pub returns : goal.returns
returns c = let e = c.base_scale.ensures in (e, subst Twelve (sym e) (scale_twelve _ _ _ _))
