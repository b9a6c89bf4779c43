-- `void_extent::bad_extents` meets its contract. Assumes nothing.
use mathlib.Core.Path.{sym}
use Rattle.void_extent.proofs.Extents.{shape}
use borrow.Author.Rules.{rules}
use Rattle.void_extent.proofs.bad_extents.Goals as goal

pub returns : goal.returns
returns c = rw (c.either.ensures, c.chosen-rise.ensures, c.both-three.ensures, c.both-two.ensures, c.both-5.ensures, c.chosen-ones.ensures, c.both-six.ensures, c.both-4.ensures, c.both-four.ensures, c.both-3.ensures, c.both-2.ensures, c.both.ensures, c.extent_most-most.ensures) (sym (shape _ _))
