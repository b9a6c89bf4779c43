-- `block_mode::even_form` meets its contract. Assumes nothing.
use Rattle.block_mode.specs.Back2D.{even_form}
use Rattle.block_mode.proofs.even_form.Goals as goal

pub returns : goal.returns
unfolding even_form
returns c = rw c.r21.ensures.0
