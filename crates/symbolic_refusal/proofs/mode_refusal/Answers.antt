use mathlib.Core.Path.{sym, ◌∙◌}
use Rattle.reason.proofs.Answers.{refused_on, faulty_on, passed, accepted}
use Rattle.symbolic_refusal.proofs.Laws.{or_first, or_next, mode_stages}
use Rattle.symbolic_refusal.proofs.mode_refusal.Goals as goal

pub returns-in_err-field_refusal : goal.returns-in_err-field_refusal
returns-in_err-field_refusal c =
    refused_on c.from_residual.result c.from_residual.ensures.1 c.in_err-field_refusal.was c.field_refusal.ensures
    (λ h. sym (or_first _ _ h) ∙ mode_stages c.args.fp c.args.s)

pub returns-in_err-grid_refusal : goal.returns-in_err-grid_refusal
returns-in_err-grid_refusal c =
    let f = or_next _ _ (accepted c.in_ok-field_refusal.was c.field_refusal.ensures) in
    refused_on c.from_residual-in_err-grid_refusal.result c.from_residual-in_err-grid_refusal.ensures.1 c.in_err-grid_refusal.was (rw c.header_of-h.ensures at c.grid_refusal.ensures)
    (λ h. sym (f ∙ or_first _ _ h) ∙ mode_stages c.args.fp c.args.s)

pub returns-then-modes_misfit : goal.returns-then-modes_misfit
returns-then-modes_misfit c =
    let f = or_next _ _ (accepted c.in_ok-field_refusal.was c.field_refusal.ensures) in
    let g = or_next _ _ (accepted c.in_ok-grid_refusal.was (rw c.header_of-h.ensures at c.grid_refusal.ensures)) in
    let m = sym (rw c.header_of-h.ensures at c.modes_misfit.ensures) ∙ c.if-modes_misfit.true in
    rw m at (sym (f ∙ g) ∙ mode_stages c.args.fp c.args.s)

pub returns-in_err-endpoint_fault : goal.returns-in_err-endpoint_fault
returns-in_err-endpoint_fault c =
    let f = or_next _ _ (accepted c.in_ok-field_refusal.was c.field_refusal.ensures) in
    let g = or_next _ _ (accepted c.in_ok-grid_refusal.was (rw c.header_of-h.ensures at c.grid_refusal.ensures)) in
    let m = sym (rw c.header_of-h.ensures at c.modes_misfit.ensures) ∙ c.if-modes_misfit.false in
    faulty_on c.from_residual-in_err-endpoint_fault.result c.from_residual-in_err-endpoint_fault.ensures.1 c.in_err-endpoint_fault.was (rw c.header_of-h.ensures at c.endpoint_fault.ensures)
    (λ h. sym (or_first _ _ h) ∙ rw m at (sym (f ∙ g) ∙ mode_stages c.args.fp c.args.s))

pub returns : goal.returns
returns c =
    let f = or_next _ _ (accepted c.in_ok-field_refusal.was c.field_refusal.ensures) in
    let g = or_next _ _ (accepted c.in_ok-grid_refusal.was (rw c.header_of-h.ensures at c.grid_refusal.ensures)) in
    let m = sym (rw c.header_of-h.ensures at c.modes_misfit.ensures) ∙ c.if-modes_misfit.false in
    let e = or_next _ _ (passed c.in_ok-endpoint_fault.was (rw c.header_of-h.ensures at c.endpoint_fault.ensures)) in
    c.number_refusal.ensures ∙ sym e ∙ rw m at (sym (f ∙ g) ∙ mode_stages c.args.fp c.args.s)
