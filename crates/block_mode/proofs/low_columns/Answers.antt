use borrow.Author.Tests.{lt-ltb, le-ltb}
use Rattle.block_mode.specs.Back2D.{low_columns}
use Rattle.block_mode.proofs.low_columns.Goals as goal

pub returns-then-height-lt8 : goal.returns-then-height-lt8
unfolding low_columns
returns-then-height-lt8 c = rw (c.low_form.ensures, lt-ltb _ _ c.if-height-lt8.true)

pub returns-then-height-lt12 : goal.returns-then-height-lt12
unfolding low_columns
returns-then-height-lt12 c = rw (c.low_form-then-height-lt12.ensures, le-ltb _ _ c.if-height-lt8.false, lt-ltb _ _ c.if-height-lt12.true)

pub returns : goal.returns
unfolding low_columns
returns c = rw (c.high_form.ensures, le-ltb _ _ c.if-height-lt8.false, le-ltb _ _ c.if-height-lt12.false)
