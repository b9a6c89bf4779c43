use Rattle.caption_block.specs.inner.Choice.{greys_of}
use Rattle.caption_block.proofs.greys.Goals as goal

pub returns : goal.returns
unfolding greys_of
returns c =
    rw (c.grey.ensures, c.grey-2.ensures, c.grey-3.ensures, c.grey-4.ensures)
