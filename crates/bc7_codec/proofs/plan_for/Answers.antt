use mathlib.Core.Path.{ap, ◌∙◌}
use Rattle.bc7_layout.specs.declared.Mode.{Mode}
use Rattle.bc7_layout.specs.Modes.{subsets}
use Rattle.bc7_layout.specs.inner.Plan.{plan_of}
use Rattle.bc7_codec.proofs.plan_for.Goals as goal

pub returns : goal.returns
unfolding subsets
returns c = c.plan_of.ensures ∙ ap (λ (w : Mode). plan_of w.subsets c.args.p) c.mode_row-row.ensures
