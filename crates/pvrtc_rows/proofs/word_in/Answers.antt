use mathlib.Core.Path.{◌∙◌, ap}
use native.Mathlib.Omega.{arith}
use borrow.Author.Rules.{rules}
use Rattle.pvrtc_texel.specs.Image.{word_at_place, word_at}
use Rattle.pvrtc_rows.proofs.Words.{side_lt, word_room}
use Rattle.pvrtc_rows.proofs.word_in.Goals as goal

pub word_of-requires : goal.word_of-requires
word_of-requires c =
    let p = c.requires in
    word_room _ _ _ _ _ _ p.words_sized p.x_bound.0 p.x_bound.1 c.word_place.ensures

pub returns : goal.returns
unfolding word_at
returns c = c.word_of.ensures ∙ ap (word_at_place c.args.s.now) c.word_place.ensures

pub overflow_cast-x : goal.overflow_cast-x
overflow_cast-x c = omega (arith, side_lt _ _ c.requires.words_sized.wide c.requires.x_bound.0)

pub overflow_cast-y : goal.overflow_cast-y
overflow_cast-y c = omega (arith, side_lt _ _ c.requires.words_sized.high c.requires.x_bound.1)
