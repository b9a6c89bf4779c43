-- `volume_mode::grid` meets its contract. Assumes nothing.
use mathlib.Core.Path.{refl}
use Rattle.volume_mode.specs.Mode3D.{volume_of}
use Rattle.volume_mode.proofs.grid.Goals as goal

pub returns : goal.returns
unfolding volume_of
returns c = refl
