use mathlib.Core.Path.{◌≡◌, ◌∙◌}
use borrow.Author.Rules.{rules}
use borrow.Author.Tests.{eq-eqb, ne_eqb}
use Rattle.bits.specs.Field.{field}
use Rattle.pvrtc_texel.specs.Word.{colour_a}
use Rattle.pvrtc_word.specs.inner.Lanes.{lanes}
use Rattle.pvrtc_word.proofs.colour_a.Goals as goal

pub returns-then-w-eq1 : goal.returns-then-w-eq1
unfolding lanes colour_a field
returns-then-w-eq1 c = c.pack.ensures ∙ rw (eq-eqb _ 1 c.if-w-eq1.true, c.four_to_five.ensures.0)

pub returns : goal.returns
unfolding lanes colour_a field
returns c =
    c.pack-2.ensures
    ∙ rw (ne_eqb _ 1 c.if-w-eq1.false, c.four_to_five-r.ensures.0, c.four_to_five-g.ensures.0, c.three_to_five-b.ensures.0)
