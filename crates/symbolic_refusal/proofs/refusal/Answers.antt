use mathlib.Core.Path.{sym, ap, ◌∙◌}
use Rattle.laws.specs.Reasons.{first_of}
use Rattle.symbolic_block.proofs.Opened.{refusal_is, refusals_void, refusals_mode}
use Rattle.symbolic_refusal.proofs.refusal.Goals as goal

pub returns-then-s-eq1 : goal.returns-then-s-eq1
returns-then-s-eq1 c =
    let a = c.args in
    c.void_refusal.ensures ∙ sym (refusal_is a.fp a.s ∙ ap first_of (refusals_void a.s c.if-s-eq1.true a.fp))

pub returns : goal.returns
returns c =
    let a = c.args in
    c.mode_refusal.ensures ∙ sym (refusal_is a.fp a.s ∙ ap first_of (refusals_mode a.s c.if-s-eq1.false a.fp))
