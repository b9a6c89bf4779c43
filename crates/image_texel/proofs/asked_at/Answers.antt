use mathlib.Core.Path.{refl, sym, ◌∙◌}
use Rattle.image_texel.proofs.Ask.{asked_refused, asked_right, asked_below, asked_inside, fits_none, was_refused, was_taken}
use Rattle.image_texel.proofs.asked_at.Goals as goal

pub returns-then-is_err : goal.returns-then-is_err
returns-then-is_err c =
    let n = was_refused _ _ c.check_view.ensures (sym c.is_err.ensures.value ∙ c.if-is_err.true) in
    (asked_refused _ _ _ _ _ _ _ n, fits_none _ _ refl)

pub returns-then-width-x : goal.returns-then-width-x
returns-then-width-x c =
    let z = was_taken _ _ c.check_view.ensures (sym c.is_err.ensures.value ∙ c.if-is_err.false) in
    (asked_right _ _ _ _ _ _ _ z c.if-width-x.true, fits_none _ _ refl)

pub returns-then-height-y : goal.returns-then-height-y
returns-then-height-y c =
    let z = was_taken _ _ c.check_view.ensures (sym c.is_err.ensures.value ∙ c.if-is_err.false) in
    (asked_below _ _ _ _ _ _ _ z c.if-width-x.false c.if-height-y.true, fits_none _ _ refl)

pub asked_in-requires : goal.asked_in-requires
asked_in-requires c =
    record { blocks_value = was_taken _ _ c.check_view.ensures (sym c.is_err.ensures.value ∙ c.if-is_err.false); x_lt_width = (c.if-width-x.false, c.if-height-y.false) }

pub returns : goal.returns
returns c =
    let z = was_taken _ _ c.check_view.ensures (sym c.is_err.ensures.value ∙ c.if-is_err.false) in
    (c.asked_in.ensures.0 ∙ asked_inside _ _ _ _ _ _ _ z c.if-width-x.false c.if-height-y.false, c.asked_in.ensures.1)
