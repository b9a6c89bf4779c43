use mathlib.Core.Path.{◌≡◌, refl, sym, ap, ◌∙◌}
use native.Mathlib.Omega.{arith}
use Rattle.bc7_layout.proofs.Rows.{width_header, width_endpoint, width_pbit, width_primary, width_secondary}
use borrow.Author.Rules.{rules}
use Rattle.bc7_layout.proofs.width_of.Goals as goal

pub returns-then-k-lt4 : goal.returns-then-k-lt4
returns-then-k-lt4 c = (c.header_width.ensures.0 ∙ width_header _ _ _ c.if-k-lt4.true, c.header_width.ensures.1)

pub returns-then-k-lt22 : goal.returns-then-k-lt22
returns-then-k-lt22 c = (c.endpoint_width.ensures.0 ∙ width_endpoint _ _ _ c.if-k-lt4.false c.if-k-lt22.true, omega (arith, c.endpoint_width.ensures.1))

pub returns-then-k-lt28 : goal.returns-then-k-lt28
returns-then-k-lt28 c = (c.p_bit_width.ensures.0 ∙ width_pbit _ _ _ c.if-k-lt22.false c.if-k-lt28.true, omega (arith, c.p_bit_width.ensures.1))

pub primary_width-requires : goal.primary_width-requires
primary_width-requires c = (c.requires, omega arith)

pub returns-then-k-lt44 : goal.returns-then-k-lt44
returns-then-k-lt44 c = (c.primary_width.ensures.0 ∙ width_primary _ _ _ c.if-k-lt28.false c.if-k-lt44.true, omega (arith, c.primary_width.ensures.1))

pub returns : goal.returns
returns c = (c.secondary_width.ensures.0 ∙ width_secondary _ _ _ c.if-k-lt44.false, omega (arith, c.secondary_width.ensures.1))
