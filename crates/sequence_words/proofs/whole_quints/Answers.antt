use mathlib.Core.Path.{◌∙◌}
use mathlib.Core.List.{[], ◌∷◌}
use native.Mathlib.Omega.{arith}
use Rattle.encoding.specs.declared.Encoding.TheVariants.{Quints}
use Rattle.sequence_words.proofs.Words.{word_alone}
use Rattle.sequence_words.proofs.whole_quints.Goals as goal

pub returns : goal.returns
returns c = let a = c.args in c.quint_word.ensures ∙ word_alone Quints a.b (a.x0 ∷ a.x1 ∷ a.x2 ∷ []) (omega arith) c.three_quints-code.ensures
