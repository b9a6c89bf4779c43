use Rattle.block_core.specs.inner.Prepared.{frame_of}
use Rattle.block_core.proofs.frame_of.Goals as goal

pub returns : goal.returns
unfolding frame_of
returns c = rw (c.scale-2.ensures, c.scale.ensures, c.height-height.ensures, c.width-width.ensures)
