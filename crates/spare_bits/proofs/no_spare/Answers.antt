use mathlib.Core.Path.{refl}
use Rattle.spare_bits.proofs.no_spare.Goals as goal

pub returns : goal.returns
returns c = refl
