use mathlib.Core.Path.{◌≡◌, refl, sym, ap, ◌∙◌}
use native.Mathlib.Omega.{arith}
use Rattle.bc7_layout.proofs.Rows.{secondary_anchor, secondary_other}
use borrow.Author.Rules.{rules}
use Rattle.bc7_layout.proofs.secondary_width.Goals as goal

pub returns-then-i-eq0 : goal.returns-then-i-eq0
returns-then-i-eq0 c = (c.less.ensures.0 ∙ rw c.wide.ensures.0 (secondary_anchor _ _ c.mode_row-w.ensures _ c.if-i-eq0.true), omega (arith, c.less.ensures.1, c.wide.ensures.1))

pub returns : goal.returns
returns c = (c.wide-2.ensures.0 ∙ secondary_other _ _ c.mode_row-w.ensures _ c.if-i-eq0.false, c.wide-2.ensures.1)
