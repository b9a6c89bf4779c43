use mathlib.Core.Path.{refl}
use Rattle.laws.specs.Table.{tab}
use Rattle.bc7_block.specs.Reading.{bc7_block, zero_block}
use Rattle.bc7_calls.proofs.zero_block.Goals as goal

pub returns : goal.returns
unfolding zero_block bc7_block tab
returns c = refl
