use mathlib.Core.Path.{◌≡◌, ◌∙◌}
use borrow.Author.Rules.{rules}
use borrow.Author.Tests.{eq-eqb, ne_eqb}
use Rattle.bits.specs.Field.{field}
use Rattle.pvrtc_texel.specs.Word.{colour_b}
use Rattle.pvrtc_word.specs.inner.Lanes.{lanes}
use Rattle.pvrtc_word.proofs.colour_b.Goals as goal

pub returns-then-w-eq1 : goal.returns-then-w-eq1
unfolding lanes colour_b field
returns-then-w-eq1 c = c.pack.ensures ∙ rw (eq-eqb _ 1 c.if-w-eq1.true)

pub returns : goal.returns
unfolding lanes colour_b field
returns c =
    c.pack-2.ensures
    ∙ rw (ne_eqb _ 1 c.if-w-eq1.false, c.four_to_five-r.ensures.0, c.four_to_five-g.ensures.0, c.four_to_five-b.ensures.0)
