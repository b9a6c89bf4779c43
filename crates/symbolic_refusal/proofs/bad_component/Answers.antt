use Rattle.symbolic_block.specs.Refusals.{bad_component}
use Rattle.symbolic_refusal.proofs.bad_component.Goals as goal

pub returns : goal.returns
unfolding bad_component
returns c = rw (c.wide.ensures, c.most_by.ensures)
