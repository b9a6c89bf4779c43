-- `footprint::is_small` meets its contract. Assumes nothing.
use Rattle.footprint.specs.Footprint.{is_small}
use borrow.Author.Rules.{rules}
use Rattle.footprint.proofs.is_small.Goals as goal

pub returns : goal.returns
unfolding is_small
returns c = rw c.texels.ensures
