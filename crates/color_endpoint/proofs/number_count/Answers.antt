-- `color_endpoint::number_count` meets its contract.
use Rattle.color_endpoint.specs.Table.{number_count}
use native.Mathlib.Omega.{arith}
use Rattle.color_endpoint.proofs.number_count.Goals as goal

pub returns : goal.returns
unfolding number_count
returns c = (rw c.wide.ensures.0, omega arith)
