use mathlib.Core.Path.{refl}
use Rattle.laws.specs.Table.{tab}
use Rattle.caption_block.proofs.no_weights.Goals as goal

pub returns : goal.returns
unfolding tab
returns c = refl
