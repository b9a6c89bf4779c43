-- `volume_mode::block_mode_in` meets its contract. Assumes nothing.
use Rattle.volume_mode.specs.Either.{block_mode_in}
use Rattle.volume_mode.proofs.block_mode_in.Goals as goal

pub returns-then-volume : goal.returns-then-volume
unfolding block_mode_in
returns-then-volume c = rw (c.if-volume.true, c.volume_mode.ensures)

pub returns : goal.returns
unfolding block_mode_in
returns c = rw (c.if-volume.false, c.block_mode.ensures)
