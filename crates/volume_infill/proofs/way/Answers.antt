use borrow.Author.Tests.{lt-ltb, le-ltb}
use Rattle.volume_infill.specs.inner.Way.{walk_of}
use borrow.Author.Rules.{rules}
use Rattle.volume_infill.proofs.way.Goals as goal

pub returns-then-fr-ft : goal.returns-then-fr-ft
unfolding walk_of
returns-then-fr-ft c = rw (lt-ltb _ _ c.if-ft-fs.true, lt-ltb _ _ c.if-fr-ft.true)

pub returns-then-fr-fs : goal.returns-then-fr-fs
unfolding walk_of
returns-then-fr-fs c = rw (lt-ltb _ _ c.if-ft-fs.true, le-ltb _ _ c.if-fr-ft.false, lt-ltb _ _ c.if-fr-fs.true)

pub returns-then-ft-fs : goal.returns-then-ft-fs
unfolding walk_of
returns-then-ft-fs c = rw (lt-ltb _ _ c.if-ft-fs.true, le-ltb _ _ c.if-fr-ft.false, le-ltb _ _ c.if-fr-fs.false)

pub returns-then-fr-fs-2 : goal.returns-then-fr-fs-2
unfolding walk_of
returns-then-fr-fs-2 c = rw (le-ltb _ _ c.if-ft-fs.false, lt-ltb _ _ c.if-fr-fs-2.true)

pub returns-then-fr-ft-2 : goal.returns-then-fr-ft-2
unfolding walk_of
returns-then-fr-ft-2 c = rw (le-ltb _ _ c.if-ft-fs.false, le-ltb _ _ c.if-fr-fs-2.false, lt-ltb _ _ c.if-fr-ft-2.true)

pub returns : goal.returns
unfolding walk_of
returns c = rw (le-ltb _ _ c.if-ft-fs.false, le-ltb _ _ c.if-fr-fs-2.false, le-ltb _ _ c.if-fr-ft-2.false)
