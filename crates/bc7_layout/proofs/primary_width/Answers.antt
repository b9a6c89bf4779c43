use mathlib.Core.Path.{◌≡◌, ◌∙◌}
use native.Mathlib.Omega.{arith}
use borrow.Author.Rules.{rules}
use Rattle.bc7_layout.proofs.Packing.{primary_by}
use Rattle.bc7_layout.proofs.primary_width.Goals as goal

pub returns : goal.returns
returns c =
    let p = c.requires in (
      c.less.ensures.0 ∙ primary_by _ _ _ _ _ _ _ c.mode_row-w.ensures p.0 p.1 c.wide.ensures.0 c.anchor_in.ensures.0,
      omega (arith, c.less.ensures.1, c.wide.ensures.1),
    )
