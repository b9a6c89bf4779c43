use borrow.Author.Tests.{eq-eqb, ne_eqb}
use Rattle.bc7_core.proofs.slope.Goals as goal

pub returns-then-bits-eq2 : goal.returns-then-bits-eq2
returns-then-bits-eq2 c = rw (eq-eqb _ _ c.if-bits-eq2.true)

pub returns-then-bits-eq3 : goal.returns-then-bits-eq3
returns-then-bits-eq3 c = rw (ne_eqb _ _ c.if-bits-eq2.false, eq-eqb _ _ c.if-bits-eq3.true)

pub returns : goal.returns
returns c = rw (ne_eqb _ _ c.if-bits-eq2.false, ne_eqb _ _ c.if-bits-eq3.false)
