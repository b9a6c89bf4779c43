use mathlib.Core.Path.{refl}
use Rattle.laws.specs.Table.{tab}
use Rattle.bc7_core.proofs.clear.Goals as goal

pub returns : goal.returns
unfolding tab
returns c = refl
