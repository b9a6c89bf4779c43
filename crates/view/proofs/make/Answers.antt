use mathlib.Core.Path.{ap, ◌∙◌}
use Rattle.view.specs.View.{view_with, view_of}
use Rattle.view.proofs.make.Goals as goal

pub returns : goal.returns
unfolding view_of
returns c = c.with_sides.ensures ∙ ap (view_with c.args.blocks c.args.footprint) c.sides_for.ensures
