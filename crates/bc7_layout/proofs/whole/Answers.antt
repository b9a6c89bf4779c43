use mathlib.Core.Path.{refl}
use Rattle.bc7_layout.specs.inner.Plan.{whole_plan}
use Rattle.bc7_layout.proofs.whole.Goals as goal

pub returns : goal.returns
unfolding whole_plan
returns c = refl
