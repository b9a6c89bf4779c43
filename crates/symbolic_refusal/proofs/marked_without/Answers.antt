use Rattle.symbolic_block.specs.Refusals.{marked_without}
use Rattle.symbolic_refusal.proofs.marked_without.Goals as goal

pub returns : goal.returns
unfolding marked_without
returns c = rw (c.some_hdr-hdr.ensures, c.header_of.ensures)
