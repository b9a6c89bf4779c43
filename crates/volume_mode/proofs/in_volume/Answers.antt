-- `volume_mode::in_volume` meets its contract. Assumes nothing.
use Rattle.volume_mode.specs.Back3D.{in_volume}
use Rattle.volume_mode.proofs.in_volume.Goals as goal

pub returns : goal.returns
unfolding in_volume
returns c = cc
