-- `endpoint_arithmetic::offset_pair` meets its contract.
use Rattle.endpoint_arithmetic.specs.Pair.{offset_pair}
use mathlib.Core.Path.{sym, ◌∙◌}
use borrow.Author.Rules.{rules}
use Rattle.endpoint_arithmetic.proofs.offset_pair.Goals as goal

pub returns-then-falls : goal.returns-then-falls
unfolding offset_pair
returns-then-falls c = rw (sym c.falls.ensures ∙ c.if-falls.true) c.contracted_pair.ensures

pub returns-else-falls : goal.returns-else-falls
unfolding offset_pair
returns-else-falls c = rw (sym c.falls.ensures ∙ c.if-falls.false) c.raised_pair.ensures
