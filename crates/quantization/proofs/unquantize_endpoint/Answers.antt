use mathlib.Core.Path.{◌∙◌}
use Rattle.quantization.specs.inner.Products.{Right}
use borrow.Author.Rules.{rules}
use Rattle.quantization.proofs.unquantize_endpoint.Goals as goal

pub returns : goal.returns
unfolding Right
returns c = c.unquantize.ensures ∙ c.endpoint_rule.ensures c.args.s.0 (search rules)
