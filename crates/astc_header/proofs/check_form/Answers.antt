use mathlib.Core.Path.{sym, ◌∙◌}
use Rattle.astc_header.proofs.Refusals.{form_41, form_42, form_43, form_none}
use Rattle.astc_header.proofs.check_form.Goals as goal

pub returns-then-s-lt16 : goal.returns-then-s-lt16
returns-then-s-lt16 c = sym (form_41 _ c.if-s-lt16.true)

pub returns-then-not-has_start : goal.returns-then-not-has_start
returns-then-not-has_start c = sym (form_42 _ c.if-s-lt16.false (sym c.has_start.ensures ∙ c.if-not-has_start.true))

pub returns-then-not-known_shape : goal.returns-then-not-known_shape
returns-then-not-known_shape c =
    sym (form_43 _ c.if-s-lt16.false (sym c.has_start.ensures ∙ c.if-not-has_start.false) (sym c.known_shape.ensures ∙ c.if-not-known_shape.true))

pub returns : goal.returns
returns c = sym (form_none _ c.if-s-lt16.false (sym c.has_start.ensures ∙ c.if-not-has_start.false) (sym c.known_shape.ensures ∙ c.if-not-known_shape.false))
