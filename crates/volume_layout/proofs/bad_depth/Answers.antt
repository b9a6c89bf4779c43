use borrow.Author.Tests.{eq-eqb, ne_eqb}
use Rattle.volume_layout.specs.Call.{depth_limit, bad_depth}
use Rattle.volume_layout.proofs.bad_depth.Goals as goal

pub returns-then-n-eq0 : goal.returns-then-n-eq0
unfolding bad_depth
returns-then-n-eq0 c = rw (eq-eqb c.args.n 0 c.if-n-eq0.true)

pub returns-else-n-eq0 : goal.returns-else-n-eq0
unfolding bad_depth depth_limit
returns-else-n-eq0 c = rw (ne_eqb c.args.n 0 c.if-n-eq0.false)
