use mathlib.Core.Path.{refl}
use Rattle.symbolic_block.specs.Refusals.{unknown_footprint}
use Rattle.symbolic_refusal.proofs.unknown_footprint.Goals as goal

pub returns : goal.returns
unfolding unknown_footprint
returns c = refl
