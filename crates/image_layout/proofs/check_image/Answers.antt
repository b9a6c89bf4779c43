use mathlib.Core.Path.{sym}
use native.Mathlib.Omega.{arith}
use Rattle.reason.proofs.Told.{refusal_some}
use Rattle.image_size.proofs.Laws.{sized}
use Rattle.image_layout.proofs.Calls.{small, by_size, wrong_bytes, wrong_places, right}
use Rattle.std.proofs.lemmas.Result.{err_from_is_err_and}
use Rattle.image_layout.proofs.check_image.Goals as goal

pub returns-in_err-check_size : goal.returns-in_err-check_size
returns-in_err-check_size c =
    let p = err_from_is_err_and c.from_residual.result c.from_residual.ensures.1 in
    rw (p.1, p.2) (by_size _ _ _ _ _ _ (refusal_some _) c.in_err-check_size.ensures)

pub grid_of-g-requires : goal.grid_of-g-requires
grid_of-g-requires c = let k = sized _ _ _ (sym c.in_ok-check_size.ensures) in (let l = k.footprint in omega arith, k.wide, k.high)

pub overflow_mul-g : goal.overflow_mul-g
overflow_mul-g c = omega (arith, small _ _ _ c.in_ok-check_size.ensures _ c.grid_of-g.ensures)

pub overflow_mul-g-2 : goal.overflow_mul-g-2
overflow_mul-g-2 c = omega (arith, small _ _ _ c.in_ok-check_size.ensures _ c.grid_of-g.ensures)

pub returns-then-bytes-g : goal.returns-then-bytes-g
returns-then-bytes-g c = wrong_bytes _ _ _ _ _ c.in_ok-check_size.ensures _ c.grid_of-g.ensures c.if-bytes-g.true

pub overflow_mul-g-3 : goal.overflow_mul-g-3
overflow_mul-g-3 c = omega (arith, small _ _ _ c.in_ok-check_size.ensures _ c.grid_of-g.ensures)

pub overflow_mul-g-4 : goal.overflow_mul-g-4
overflow_mul-g-4 c = omega (arith, small _ _ _ c.in_ok-check_size.ensures _ c.grid_of-g.ensures)

pub returns-then-places-g : goal.returns-then-places-g
returns-then-places-g c = wrong_places _ _ _ _ _ c.in_ok-check_size.ensures _ c.grid_of-g.ensures c.if-bytes-g.false c.if-places-g.true

pub returns : goal.returns
returns c = (right _ _ _ _ _ c.in_ok-check_size.ensures _ c.grid_of-g.ensures c.if-bytes-g.false c.if-places-g.false, c.grid_of-g.ensures)
