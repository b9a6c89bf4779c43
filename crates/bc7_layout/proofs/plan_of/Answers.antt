use mathlib.Core.Path.{sym, ap, ◌∙◌}
use Prim.Native.Nat.{ℕ}
use native.Mathlib.Omega.{arith}
use borrow.Author.Rules.{rules}
use Rattle.bc7_layout.specs.inner.Plan.{plan_of}
use Rattle.bc7_layout.proofs.Packing.{whole_plan_lem, whole_past, whole_one}
use Rattle.bc7_layout.proofs.plan_of.Goals as goal

pub returns-then-i-ge64 : goal.returns-then-i-ge64
returns-then-i-ge64 c = c.whole.ensures ∙ sym (whole_plan_lem _ _ (whole_past _ _ (omega arith)))

pub returns-then-n-eq2 : goal.returns-then-n-eq2
returns-then-n-eq2 c = c.two_plan.ensures ∙ ap (λ (n : ℕ). plan_of n c.args.p) (sym c.if-n-eq2.true)

pub returns-then-n-eq3 : goal.returns-then-n-eq3
returns-then-n-eq3 c = c.three_plan.ensures ∙ ap (λ (n : ℕ). plan_of n c.args.p) (sym c.if-n-eq3.true)

pub returns : goal.returns
returns c = c.whole-2.ensures ∙ sym (whole_plan_lem _ _ (whole_one _ _ c.if-n-eq2.false c.if-n-eq3.false))
