use Rattle.block_mode.specs.Back2D.{in_limits}
use borrow.Author.Rules.{rules}
use Rattle.block_mode.proofs.in_limits.Goals as goal

pub returns : goal.returns
unfolding in_limits
returns c = cc
