use mathlib.Core.Path.{sym, ap, ◌∙◌}
use Rattle.std.proofs.lemmas.Result.{err_from_is_err_and}
use Rattle.reason.specs.declared.Refusal.TheVariants.{Bytes}
use Rattle.astc_header.specs.Header.{told_accepted}
use Rattle.astc_header.proofs.Refusals.{formed, by_form, by_sides, other_length, own_length, told_refused_lem, told_accepted_lem}
use Rattle.astc_header.proofs.read_header.Goals as goal

pub returns-in_err-check_form : goal.returns-in_err-check_form
returns-in_err-check_form c =
    let p = err_from_is_err_and c.from_residual.result c.from_residual.ensures.1 in
    rw (p.1, p.2) (let e = by_form _ _ c.in_err-check_form.ensures in record { answer = e; told = told_refused_lem _ _ e })

pub header_in-h-requires : goal.header_in-h-requires
header_in-h-requires c = (formed _ (sym c.in_ok-check_form.ensures)).long

pub overflow_sub-file : goal.overflow_sub-file
overflow_sub-file c = (formed _ (sym c.in_ok-check_form.ensures)).long

pub returns-in_err-check_size : goal.returns-in_err-check_size
returns-in_err-check_size c =
    let p = err_from_is_err_and c.from_residual-in_err-check_size.result c.from_residual-in_err-check_size.ensures.1 in
    let f = formed _ (sym c.in_ok-check_form.ensures) in
    rw (p.1, p.2) (let e = by_sides _ _ f c.header_in-h.ensures c.in_err-check_size.ensures in record { answer = e; told = told_refused_lem _ _ e })

pub returns-then-file-blocks : goal.returns-then-file-blocks
returns-then-file-blocks c =
    let f = formed _ (sym c.in_ok-check_form.ensures) in
    let e = other_length _ f c.header_in-h.ensures c.in_ok-check_size.ensures c.blocks_of-blocks.ensures.0 c.if-file-blocks.true in
    record { answer = e; told = told_refused_lem _ Bytes e }

pub returns : goal.returns
returns c =
    let f = formed _ (sym c.in_ok-check_form.ensures) in
    let z = own_length _ f c.header_in-h.ensures c.in_ok-check_size.ensures c.blocks_of-blocks.ensures.0 c.if-file-blocks.false in
    record { answer = (z, c.header_in-h.ensures); told = ap told_accepted c.header_in-h.ensures ∙ told_accepted_lem _ z }
