use mathlib.Core.Path.{sym, ◌∙◌}
use Rattle.bc7_block.specs.Fields.{value_in}
use Rattle.bc7_codec.proofs.Whole.{numbered}
use Rattle.bc7_codec.proofs.value_in.Goals as goal

pub returns-then-k-eq0 : goal.returns-then-k-eq0
unfolding value_in
returns-then-k-eq0 c = rw c.if-k-eq0.true c.mark_of.ensures

pub returns : goal.returns
returns c = c.number_in.ensures ∙ sym (numbered _ _ c.if-k-eq0.false)
