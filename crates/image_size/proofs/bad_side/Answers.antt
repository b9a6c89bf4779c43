use borrow.Author.Tests.{eq-eqb, ne_eqb}
use Rattle.image_size.specs.Sides.{side_limit, bad_side}
use Rattle.image_size.proofs.bad_side.Goals as goal

pub returns-then-n-eq0 : goal.returns-then-n-eq0
unfolding bad_side
returns-then-n-eq0 c = rw (eq-eqb c.args.n 0 c.if-n-eq0.true)

pub returns-else-n-eq0 : goal.returns-else-n-eq0
unfolding bad_side side_limit
returns-else-n-eq0 c = rw (ne_eqb c.args.n 0 c.if-n-eq0.false)
