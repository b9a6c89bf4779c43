use Rattle.block_core.specs.inner.Prepared.{volume_frame_of}
use Rattle.block_core.proofs.volume_frame.Goals as goal

pub returns : goal.returns
unfolding volume_frame_of
returns c = let s = c.before.before in
    rw (c.scale-3.ensures, c.scale-2.ensures, s.scale.ensures, s.depth-depth.ensures, s.height-height.ensures, s.width-width.ensures)
