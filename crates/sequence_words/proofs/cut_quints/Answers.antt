use mathlib.Core.Path.{refl, ◌∙◌}
use mathlib.Core.List.{[], ◌∷◌}
use native.Mathlib.Omega.{arith}
use Rattle.encoding.specs.declared.Encoding.TheVariants.{Quints}
use Rattle.sequence_words.proofs.Words.{word_cut}
use Rattle.sequence_words.proofs.cut_quints.Goals as goal

pub returns : goal.returns
returns c =
    let a = c.args in
    c.quint_word.ensures ∙ word_cut Quints a.b a.m (a.x0 ∷ a.x1 ∷ 0 ∷ []) (omega arith) (omega arith) c.requires.3 refl c.cut_quint_code-code.ensures
