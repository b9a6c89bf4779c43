-- `volume_mode::low_volume` meets its contract. Assumes nothing.
use native.Mathlib.Nat.{div-one}
use Rattle.volume_mode.specs.Mode3D.{low_volume}
use Rattle.volume_mode.proofs.low_volume.Goals as goal

pub returns : goal.returns
unfolding low_volume
returns c = rw (c.grid.ensures, div-one)
