use mathlib.Core.Path.{refl}
use Rattle.laws.specs.Table.{tab}
use Rattle.integer_sequence.proofs.reading.no_numbers.Goals as goal

pub returns : goal.returns
unfolding tab
returns c = refl
