use mathlib.Core.Path.{refl}
use Rattle.bc7_core.specs.inner.Sets.{behind_of}
use Rattle.bc7_core.proofs.behind.Goals as goal

pub returns : goal.returns
unfolding behind_of
returns c = refl
