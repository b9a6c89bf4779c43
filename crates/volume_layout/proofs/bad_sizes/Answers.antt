use mathlib.Core.Path.{sym, ◌∙◌}
use Rattle.volume_layout.specs.Call.{bad_sizes}
use Rattle.volume_layout.proofs.bad_sizes.Goals as goal

pub returns-then-bad_side : goal.returns-then-bad_side
unfolding bad_sizes
returns-then-bad_side c = rw (sym c.bad_side.ensures ∙ c.if-bad_side.true)

pub returns-then-bad_side-2 : goal.returns-then-bad_side-2
unfolding bad_sizes
returns-then-bad_side-2 c =
    rw (sym c.bad_side.ensures ∙ c.if-bad_side.false, sym c.bad_side-2.ensures ∙ c.if-bad_side-2.true)

pub returns : goal.returns
unfolding bad_sizes
returns c =
    let b = c.before in
    rw (sym b.bad_side.ensures ∙ b.if-bad_side.false, sym b.bad_side-2.ensures ∙ b.if-bad_side-2.false)
    c.bad_depth.ensures
