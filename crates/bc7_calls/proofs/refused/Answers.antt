use mathlib.Core.Path.{refl}
use Rattle.bc7_calls.specs.Calls.{refused_with}
use Rattle.laws.specs.Table.{tab}
use Rattle.bc7_calls.proofs.refused.Goals as goal

pub returns : goal.returns
unfolding refused_with tab
returns c = refl
