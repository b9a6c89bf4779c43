-- `void_extent::extent_width` meets its contract. Assumes nothing.
use native.Mathlib.Omega.{arith}
use borrow.Author.Tests.{lt-ltb, le-ltb}
use Rattle.void_extent.specs.Layout.{extent_width}
use Rattle.void_extent.proofs.extent_width.Goals as goal

pub returns-then-volume : goal.returns-then-volume
unfolding extent_width
returns-then-volume c = (rw c.if-volume.true, omega arith)

pub returns-then-i-lt4 : goal.returns-then-i-lt4
unfolding extent_width
returns-then-i-lt4 c = (rw (c.if-volume.false, lt-ltb _ _ c.if-i-lt4.true), omega arith)

pub returns-else-i-lt4 : goal.returns-else-i-lt4
unfolding extent_width
returns-else-i-lt4 c = (rw (c.if-volume.false, le-ltb _ _ c.if-i-lt4.false), omega arith)
