use mathlib.Core.Path.{refl}
use Rattle.bc7_ends.specs.inner.Lanes.{four_lanes}
use Rattle.bc7_ends.proofs.Mixing.{lanes_most}
use Rattle.bc7_ends.proofs.pack.Goals as goal

pub returns : goal.returns
unfolding four_lanes
returns c = let p = c.requires in (refl, lanes_most _ _ _ _ p.0 p.1 p.2 p.3)
