use mathlib.Core.Path.{refl}
use Rattle.laws.specs.Table.{tab, tab_from}
use Rattle.symbolic_block.specs.Reading.{zero_block}
use Rattle.symbolic_reader.proofs.zero_block.Goals as goal

pub returns : goal.returns
unfolding zero_block tab tab_from
returns c = refl
