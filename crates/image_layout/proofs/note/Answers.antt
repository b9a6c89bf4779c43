use borrow.Author.Tests.{eq-eqb, ne_eqb}
use Rattle.image_layout.specs.inner.Noted.{noted}
use Rattle.image_layout.proofs.note.Goals as goal

pub returns-then-e-eq0 : goal.returns-then-e-eq0
unfolding noted
returns-then-e-eq0 c = rw (eq-eqb c.args.e 0 c.if-e-eq0.true)

pub returns-then-t-eq0 : goal.returns-then-t-eq0
unfolding noted
returns-then-t-eq0 c = let a = c.args in
    rw (ne_eqb a.e 0 c.if-e-eq0.false, eq-eqb a.t.count 0 c.if-t-eq0.true)

pub returns : goal.returns
unfolding noted
returns c = let a = c.args in
    rw (ne_eqb a.e 0 c.if-e-eq0.false, ne_eqb a.t.count 0 c.if-t-eq0.false)
