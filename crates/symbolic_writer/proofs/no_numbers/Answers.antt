use mathlib.Core.Path.{refl}
use Rattle.laws.specs.Table.{tab}
use Rattle.symbolic_writer.proofs.no_numbers.Goals as goal

pub returns : goal.returns
unfolding tab
returns c = refl
