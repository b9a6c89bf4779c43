use borrow.Author.Tests.{eq-eqb, ne_eqb}
use Rattle.bc7_numbers.proofs.or_5.Goals as goal

pub returns-then-bytes-eq16 : goal.returns-then-bytes-eq16
returns-then-bytes-eq16 c = rw (eq-eqb _ _ c.if-bytes-eq16.true)

pub returns-else-bytes-eq16 : goal.returns-else-bytes-eq16
returns-else-bytes-eq16 c = rw (ne_eqb _ _ c.if-bytes-eq16.false)
