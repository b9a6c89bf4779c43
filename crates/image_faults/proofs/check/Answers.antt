use mathlib.Core.Path.{refl, sym}
use native.Mathlib.Omega.{arith}
use Rattle.std.proofs.lemmas.Result.{err_from_is_err_and}
use Rattle.reason.proofs.Told.{refusal_some}
use Rattle.image_faults.proofs.Laws.{bad_footprint, bad_kind, bad_size, bad_bytes, bad_places, all_good}
use Rattle.image_faults.proofs.check.Goals as goal

pub returns-then-footprint-gt13 : goal.returns-then-footprint-gt13
returns-then-footprint-gt13 c = bad_footprint _ _ _ _ _ _ c.if-footprint-gt13.true

pub returns-then-kind-gt2 : goal.returns-then-kind-gt2
returns-then-kind-gt2 c = bad_kind _ _ _ _ _ _ c.if-footprint-gt13.false c.if-kind-gt2.true

pub returns-in_err-check_size : goal.returns-in_err-check_size
returns-in_err-check_size c =
    let p = err_from_is_err_and c.from_residual.result c.from_residual.ensures.1 in
    rw (p.1, p.2)
    (bad_size _ _ _ _ _ _ c.if-footprint-gt13.false c.if-kind-gt2.false _ c.in_err-check_size.ensures (λ z. let k = refusal_some c.in_err-check_size.field-0.0 in omega arith))

pub blocks_of-blocks-requires : goal.blocks_of-blocks-requires
blocks_of-blocks-requires c = sym c.in_ok-check_size.ensures

pub returns-then-bytes-blocks : goal.returns-then-bytes-blocks
returns-then-bytes-blocks c = bad_bytes _ _ _ _ _ _ c.if-footprint-gt13.false c.if-kind-gt2.false 0 c.in_ok-check_size.ensures refl _ c.blocks_of-blocks.ensures.0 c.if-bytes-blocks.true

pub returns-then-places-blocks : goal.returns-then-places-blocks
returns-then-places-blocks c = bad_places _ _ _ _ _ _ c.if-footprint-gt13.false c.if-kind-gt2.false 0 c.in_ok-check_size.ensures refl _ c.blocks_of-blocks.ensures.0 c.if-bytes-blocks.false c.if-places-blocks.true

pub returns : goal.returns
returns c = all_good _ _ _ _ _ _ c.if-footprint-gt13.false c.if-kind-gt2.false 0 c.in_ok-check_size.ensures refl _ c.blocks_of-blocks.ensures.0 c.if-bytes-blocks.false c.if-places-blocks.false
