use mathlib.Core.Path.{refl}
use Rattle.laws.specs.Table.{tab}
use Rattle.integer_sequence.specs.Codes.{digit}
use Rattle.smallest_codes.specs.Smallest.{smallest_codes}
use Rattle.smallest_codes.proofs.cut.two_trits.Goals as goal

pub returns : goal.returns
unfolding smallest_codes digit tab
returns c = refl
