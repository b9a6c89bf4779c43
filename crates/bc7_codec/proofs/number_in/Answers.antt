use mathlib.Core.Path.{sym, ◌∙◌}
use native.Mathlib.Omega.{arith}
use Rattle.bc7_block.specs.Fields.{value_in}
use Rattle.bc7_block.proofs.Views.{at_endpoint, at_pbit, at_primary, at_secondary}
use Rattle.bc7_codec.specs.Numbers.{sheet_number}
use Rattle.bc7_codec.proofs.Whole.{numbered}
use Rattle.bc7_codec.proofs.number_in.Goals as goal

pub returns-then-k-eq0 : goal.returns-then-k-eq0
unfolding sheet_number
returns-then-k-eq0 c = rw c.if-k-eq0.true

pub returns-then-k-eq1 : goal.returns-then-k-eq1
unfolding sheet_number value_in
returns-then-k-eq1 c = rw c.if-k-eq1.true

pub returns-then-k-eq2 : goal.returns-then-k-eq2
unfolding sheet_number value_in
returns-then-k-eq2 c = rw c.if-k-eq2.true

pub returns-then-k-eq3 : goal.returns-then-k-eq3
unfolding sheet_number value_in
returns-then-k-eq3 c = rw c.if-k-eq3.true

pub returns-then-k-lt22 : goal.returns-then-k-lt22
returns-then-k-lt22 c = sym (at_endpoint _ _ (omega arith) (omega arith)) ∙ numbered _ _ (λ q. omega arith)

pub returns-then-k-lt28 : goal.returns-then-k-lt28
returns-then-k-lt28 c = sym (at_pbit _ _ (omega arith) (omega arith)) ∙ numbered _ _ (λ q. omega arith)

pub returns-then-k-lt44 : goal.returns-then-k-lt44
returns-then-k-lt44 c = sym (at_primary _ _ (omega arith) (omega arith)) ∙ numbered _ _ (λ q. omega arith)

pub returns : goal.returns
returns c = sym (at_secondary _ _ (omega arith)) ∙ numbered _ _ (λ q. omega arith)
