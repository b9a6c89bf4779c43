use Rattle.block_mode.specs.Back2D.{high_form}
use Rattle.block_mode.proofs.high_form.Goals as goal

pub returns : goal.returns
unfolding high_form
returns c = rw (c.shared.ensures.0, c.r21.ensures.0)
