use Rattle.symbolic_block.specs.Refusals.{within}
use Rattle.symbolic_refusal.proofs.modes_within.Goals as goal

pub returns : goal.returns
unfolding within
returns c = rw (c.within.ensures, c.wide-m3.ensures, c.wide-m2.ensures, c.wide-m1.ensures, c.wide-m0.ensures)
