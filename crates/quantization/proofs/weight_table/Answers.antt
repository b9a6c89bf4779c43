use borrow.Author.Rules.{rules}
use Rattle.laws.specs.Table.{tab}
use Rattle.laws.proofs.Filling.{tab_ext}
use Rattle.quantization.specs.inner.Words.{by_words, RightWords}
use Rattle.quantization.specs.Unquantise.{unquant_weight}
use Rattle.quantization.proofs.weight_table.Goals as goal

-- the bytes of the words are what the words give, and so the levels
pub returns : goal.returns
unfolding tab by_words RightWords
returns c = tab_ext (by_words c.weight_words-words.result) (unquant_weight c.args.range) 0 32 (λ v h. c.weight_words-words.ensures v)
