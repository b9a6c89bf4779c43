use mathlib.Core.Path.{sym, ◌∙◌}
use Rattle.reason.proofs.Answers.{faulty_on, passed}
use Rattle.symbolic_refusal.proofs.Laws.{or_first, or_next, grid_stage_lem}
use Rattle.symbolic_refusal.proofs.grid_refusal.Goals as goal

pub returns-in_err-grid_fault : goal.returns-in_err-grid_fault
returns-in_err-grid_fault c =
    faulty_on c.from_residual.result c.from_residual.ensures.1 c.in_err-grid_fault.was c.grid_fault.ensures (λ h. sym (or_first _ _ h) ∙ grid_stage_lem c.args.fp c.args.h)

pub returns-then-h : goal.returns-then-h
returns-then-h c = rw c.if-h.true at (sym (or_next _ _ (passed c.in_ok-grid_fault.was c.grid_fault.ensures)) ∙ grid_stage_lem c.args.fp c.args.h)

pub returns : goal.returns
returns c = rw c.if-h.false at (sym (or_next _ _ (passed c.in_ok-grid_fault.was c.grid_fault.ensures)) ∙ grid_stage_lem c.args.fp c.args.h)
