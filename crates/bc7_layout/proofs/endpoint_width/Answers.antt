use mathlib.Core.Path.{◌≡◌, refl, sym, ap, ◌∙◌}
use native.Mathlib.Omega.{arith}
use Rattle.bc7_layout.proofs.Rows.{endpoint_colour, endpoint_alpha, endpoint_none}
use borrow.Author.Rules.{rules}
use Rattle.bc7_layout.proofs.endpoint_width.Goals as goal

pub returns-then-j-w : goal.returns-then-j-w
returns-then-j-w c = (c.wide.ensures.0 ∙ endpoint_colour _ _ c.mode_row-w.ensures _ c.if-j-w.true, c.wide.ensures.1)

pub returns-then-j-w-2 : goal.returns-then-j-w-2
returns-then-j-w-2 c = (c.wide-then-j-w-2.ensures.0 ∙ endpoint_alpha _ _ c.mode_row-w.ensures _ c.if-j-w.false c.if-j-w-2.true, c.wide-then-j-w-2.ensures.1)

pub returns : goal.returns
returns c = (endpoint_none _ _ c.mode_row-w.ensures _ c.if-j-w-2.false, omega arith)
