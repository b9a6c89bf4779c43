use borrow.Author.Tests.{lt-ltb, le-ltb}
use Rattle.block_mode.specs.Back2D.{low_rows}
use Rattle.block_mode.proofs.low_rows.Goals as goal

pub returns-then-width-lt4 : goal.returns-then-width-lt4
unfolding low_rows
returns-then-width-lt4 c = rw (c.low_form.ensures, lt-ltb _ _ c.if-width-lt4.true)

pub returns-then-width-lt8 : goal.returns-then-width-lt8
unfolding low_rows
returns-then-width-lt8 c = rw (c.low_form-then-width-lt8.ensures, le-ltb _ _ c.if-width-lt4.false, lt-ltb _ _ c.if-width-lt8.true)

pub returns-then-width-lt12 : goal.returns-then-width-lt12
unfolding low_rows
returns-then-width-lt12 c = rw (c.low_form-then-width-lt12.ensures, le-ltb _ _ c.if-width-lt4.false, le-ltb _ _ c.if-width-lt8.false, lt-ltb _ _ c.if-width-lt12.true)

pub returns : goal.returns
unfolding low_rows
returns c = rw (c.high_form.ensures, le-ltb _ _ c.if-width-lt4.false, le-ltb _ _ c.if-width-lt8.false, le-ltb _ _ c.if-width-lt12.false)
