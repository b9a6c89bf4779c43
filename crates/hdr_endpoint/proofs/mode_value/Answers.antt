-- `hdr_endpoint::mode_value` meets its contract.
use native.Mathlib.Omega.{arith}
use mathlib.Core.Path.{refl}
use Rattle.hdr_endpoint.specs.Scale.{mode_value}
use borrow.Author.Rules.{rules}
use Rattle.hdr_endpoint.proofs.mode_value.Goals as goal

pub returns : goal.returns
unfolding mode_value
returns c = (refl, omega arith)
