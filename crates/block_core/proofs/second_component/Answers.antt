use borrow.Author.Tests.{eq-eqb, ne_eqb}
use Rattle.block_core.proofs.second_component.Goals as goal

pub returns-then-planes-eq2 : goal.returns-then-planes-eq2
returns-then-planes-eq2 c = rw (eq-eqb _ _ c.if-planes-eq2.true)

pub returns-else-planes-eq2 : goal.returns-else-planes-eq2
returns-else-planes-eq2 c = rw (ne_eqb _ _ c.if-planes-eq2.false)
