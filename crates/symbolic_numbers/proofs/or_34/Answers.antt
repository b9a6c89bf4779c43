use borrow.Author.Tests.{eq-eqb, ne_eqb}
use Rattle.symbolic_numbers.proofs.or_34.Goals as goal

pub returns-then-n-eq0 : goal.returns-then-n-eq0
returns-then-n-eq0 c = rw (eq-eqb _ 0 c.if-n-eq0.true)

pub returns-then-n-eq35 : goal.returns-then-n-eq35
returns-then-n-eq35 c = rw (ne_eqb _ 0 c.if-n-eq0.false, eq-eqb _ 35 c.if-n-eq35.true)

pub returns-else-n-eq35 : goal.returns-else-n-eq35
returns-else-n-eq35 c = rw (ne_eqb _ 0 c.if-n-eq0.false, ne_eqb _ 35 c.if-n-eq35.false)
