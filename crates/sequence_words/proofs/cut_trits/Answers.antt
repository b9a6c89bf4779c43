use mathlib.Core.Path.{refl, ◌∙◌}
use mathlib.Core.List.{[], ◌∷◌}
use native.Mathlib.Omega.{arith}
use Rattle.encoding.specs.declared.Encoding.TheVariants.{Trits}
use Rattle.sequence_words.proofs.Words.{word_cut}
use Rattle.sequence_words.proofs.cut_trits.Goals as goal

pub returns : goal.returns
returns c =
    let a = c.args in
    c.trit_word.ensures ∙ word_cut Trits a.b a.m (a.x0 ∷ a.x1 ∷ a.x2 ∷ a.x3 ∷ 0 ∷ []) (omega arith) (omega arith) c.requires.3 refl c.cut_trit_code-code.ensures
