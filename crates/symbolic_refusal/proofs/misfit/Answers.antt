use borrow.Author.Tests.{eq-eqb, ne_eqb}
use Rattle.symbolic_refusal.proofs.misfit.Goals as goal

pub returns-then-selector-eq0 : goal.returns-then-selector-eq0
returns-then-selector-eq0 c = rw (eq-eqb _ _ c.if-selector-eq0.true)

pub returns : goal.returns
returns c = rw (ne_eqb _ _ c.if-selector-eq0.false)
