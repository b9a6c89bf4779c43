use Rattle.footprint.specs.Footprint.{sides_of}
use borrow.Author.Rules.{rules}
use Rattle.footprint.proofs.depth.Goals as goal

pub returns : goal.returns
unfolding sides_of
returns c = rw c.sides_of-f.ensures
