use Rattle.footprint.specs.Footprint.{sides_of}
use borrow.Author.Rules.{rules}
use Rattle.footprint.proofs.height.Goals as goal

pub returns : goal.returns
unfolding sides_of
returns c = rw c.sides_of-f.ensures
