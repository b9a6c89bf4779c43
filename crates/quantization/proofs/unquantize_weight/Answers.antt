use mathlib.Core.Path.{◌∙◌}
use Rattle.quantization.specs.inner.Words.{RightWords}
use borrow.Author.Rules.{rules}
use Rattle.quantization.proofs.unquantize_weight.Goals as goal

pub returns : goal.returns
unfolding RightWords
returns c = c.weight_by.ensures ∙ c.weight_words-words.ensures c.args.s.0
