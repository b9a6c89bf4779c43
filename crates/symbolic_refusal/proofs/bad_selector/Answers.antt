use Rattle.symbolic_block.specs.Refusals.{bad_selector}
use Rattle.symbolic_refusal.proofs.bad_selector.Goals as goal

pub returns : goal.returns
unfolding bad_selector
returns c = rw (c.wide.ensures, c.most_by.ensures)
