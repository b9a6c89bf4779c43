use Rattle.laws.specs.Table.{tab, tab_from}
use Rattle.symbolic_block.specs.Reading.{mode_block}
use Rattle.symbolic_reader.proofs.mode_block.Goals as goal

pub returns : goal.returns
unfolding mode_block tab tab_from
returns c = rw (c.endpoints-endpoints.ensures, c.weights-weights.ensures, c.mark_of-hdr.ensures)
