use mathlib.Core.Path.{refl, sym}
use Rattle.std.specs.Prelude.{Ok, Err}
use Rattle.std.proofs.lemmas.Result.{err_from_is_err_and}
use Rattle.image_size.specs.Sides.{size_refusal}
use Rattle.image_size.proofs.Laws.{sized}
use Rattle.reason.proofs.Answers.{told_as}
use Rattle.astc_header.specs.Header.{header_bytes}
use Rattle.astc_header.proofs.Writing.{side_small, written}
use Rattle.astc_header.proofs.write_header.Goals as goal

pub returns-in_err-check_size : goal.returns-in_err-check_size
returns-in_err-check_size c =
    let a = c.args in
    let p = err_from_is_err_and c.from_residual.result c.from_residual.ensures.1 in
    rw (p.1, p.2) (record { answer = c.in_err-check_size.ensures; told = told_as (size_refusal a.footprint a.width a.height) (header_bytes a.footprint a.width a.height) (Err _) c.in_err-check_size.ensures })

pub header_with-requires : goal.header_with-requires
header_with-requires c = let s = sized _ _ _ (sym c.in_ok-check_size.ensures) in (side_small _ s.wide, side_small _ s.high)

pub returns : goal.returns
returns c =
    let a = c.args in
    let w = written a.footprint a.width a.height c.in_ok-check_size.ensures _ refl (rw (c.width-columns.ensures, c.height-rows.ensures) at c.header_with.ensures) in
    record { answer = w; told = told_as (size_refusal a.footprint a.width a.height) (header_bytes a.footprint a.width a.height) (Ok _) w }
