use mathlib.Core.Path.{◌∙◌}
use mathlib.Core.List.{[], ◌∷◌}
use native.Mathlib.Omega.{arith}
use Rattle.encoding.specs.declared.Encoding.TheVariants.{Trits}
use Rattle.sequence_words.proofs.Words.{word_alone}
use Rattle.sequence_words.proofs.whole_trits.Goals as goal

pub returns : goal.returns
returns c = let a = c.args in c.trit_word.ensures ∙ word_alone Trits a.b (a.x0 ∷ a.x1 ∷ a.x2 ∷ a.x3 ∷ a.x4 ∷ []) (omega arith) c.five_trits-code.ensures
