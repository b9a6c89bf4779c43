use borrow.Author.Tests.{lt-ltb, le-ltb}
use borrow.Author.Rules.{rules}
use Rattle.footprint.proofs.side_in.Goals as goal

pub returns-then-fp-lt14 : goal.returns-then-fp-lt14
returns-then-fp-lt14 c = rw (lt-ltb _ _ c.if-fp-lt14.true)

pub returns-then-fp-lt24 : goal.returns-then-fp-lt24
returns-then-fp-lt24 c = rw (le-ltb _ _ c.if-fp-lt14.false, lt-ltb _ _ c.if-fp-lt24.true)

pub returns : goal.returns
returns c = rw (le-ltb _ _ c.if-fp-lt14.false, le-ltb _ _ c.if-fp-lt24.false)
