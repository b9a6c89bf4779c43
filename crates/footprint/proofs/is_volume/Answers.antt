-- `footprint::is_volume` meets its contract. Assumes nothing.
use mathlib.Core.Path.{refl}
use Rattle.footprint.specs.Footprint.{is_volume}
use Rattle.footprint.proofs.is_volume.Goals as goal

pub returns : goal.returns
unfolding is_volume
returns c = refl
