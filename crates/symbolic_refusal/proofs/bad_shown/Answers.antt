use Rattle.symbolic_block.specs.Refusals.{bad_hdr, bad_colours}
use Rattle.symbolic_refusal.specs.inner.Stages.{bad_shown}
use Rattle.symbolic_refusal.proofs.bad_shown.Goals as goal

pub returns : goal.returns
unfolding bad_shown bad_hdr bad_colours
returns c = rw (c.bad_extent_fields-extents.ensures, c.within-colours.ensures)
