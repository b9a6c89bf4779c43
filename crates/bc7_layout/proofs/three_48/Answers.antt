use mathlib.Core.Path.{refl}
use Rattle.bits.specs.Field.{field}
use Rattle.bc7_layout.specs.inner.Plan.{plan_run}
use Rattle.bc7_layout.proofs.three_48.Goals as goal

pub returns : goal.returns
unfolding plan_run field
returns c = refl
