use Rattle.std.specs.Prelude.{Err, take}
use Rattle.std.proofs.lemmas.Result.{err_from_is_err_and}
use Rattle.reason.proofs.Answers.{told_as}
use Rattle.astc_header.specs.Header.{header_refusal}
use Rattle.astc_round_trip.proofs.Laws.{again}
use Rattle.astc_round_trip.proofs.rewrite.Goals as goal

pub returns-in_err-h : goal.returns-in_err-h
returns-in_err-h c =
    let s = c.args.file.now in
    let p = err_from_is_err_and c.from_residual.result c.from_residual.ensures.1 in
    rw (p.1, p.2) (record { answer = c.in_err-h.ensures.answer; told = told_as (header_refusal s) (take 16 s) (Err _) c.in_err-h.ensures.answer })

pub returns : goal.returns
returns c =
    let s = c.args.file.now in
    let a = again s _ c.write_header.result (λ i. (c.type_inv.file i).fits) c.in_ok-h.ensures.answer c.write_header.ensures.answer in
    record { answer = a; told = told_as (header_refusal s) (take 16 s) c.write_header.result a }
