use Rattle.void_extent.specs.Layout.{bad_fixed}
use borrow.Author.Rules.{rules}
use Rattle.void_extent.proofs.bad_fixed.Goals as goal

pub returns-then-volume : goal.returns-then-volume
unfolding bad_fixed
returns-then-volume c = rw c.if-volume.true

pub returns : goal.returns
unfolding bad_fixed
returns c = rw (c.if-volume.false, c.field_at.ensures)
