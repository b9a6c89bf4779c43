use Rattle.block_mode.specs.Back2D.{low_form}
use Rattle.block_mode.proofs.low_form.Goals as goal

pub returns : goal.returns
unfolding low_form
returns c = rw (c.shared.ensures.0, c.r21.ensures.0)
