-- `void_extent::extent_place` meets its contract. Assumes nothing.
use borrow.Author.Tests.{lt-ltb, le-ltb}
use Rattle.void_extent.specs.Layout.{extent_place}
use borrow.Author.Rules.{rules}
use Rattle.void_extent.proofs.extent_place.Goals as goal

pub returns-then-volume : goal.returns-then-volume
unfolding extent_place
returns-then-volume c = rw c.if-volume.true

pub returns-then-i-lt4 : goal.returns-then-i-lt4
unfolding extent_place
returns-then-i-lt4 c = rw (c.if-volume.false, lt-ltb _ _ c.if-i-lt4.true)

pub returns-else-i-lt4 : goal.returns-else-i-lt4
unfolding extent_place
returns-else-i-lt4 c = rw (c.if-volume.false, le-ltb _ _ c.if-i-lt4.false)
