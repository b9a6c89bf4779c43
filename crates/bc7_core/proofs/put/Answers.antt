use mathlib.Core.Path.{refl}
use Rattle.bc7_ends.specs.inner.Lanes.{lane_byte}
use Rattle.bc7_core.proofs.put.Goals as goal

pub returns : goal.returns
unfolding lane_byte
returns c = refl
