use Rattle.bc7_block.specs.Reading.{bc7_block}
use Rattle.bc7_codec.proofs.sheet_of.Goals as goal

pub returns : goal.returns
unfolding bc7_block
returns c = rw (c.run_of-secondary.ensures, c.run_of-primary.ensures, c.run_of-pbits.ensures, c.run_of-endpoints.ensures)
