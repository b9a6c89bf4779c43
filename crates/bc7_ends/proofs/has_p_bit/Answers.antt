use borrow.Author.Tests.{eq-eqb, ne_eqb}
use Rattle.bc7_ends.proofs.has_p_bit.Goals as goal

pub returns-then-row-eq1 : goal.returns-then-row-eq1
returns-then-row-eq1 c = rw (eq-eqb _ _ c.if-row-eq1.true)

pub returns-else-row-eq1 : goal.returns-else-row-eq1
returns-else-row-eq1 c = rw (ne_eqb _ _ c.if-row-eq1.false)
