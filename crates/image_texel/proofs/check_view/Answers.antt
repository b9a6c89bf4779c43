use mathlib.Core.Path.{refl, sym}
use native.Mathlib.Omega.{arith}
use Rattle.std.proofs.lemmas.Result.{err_from_is_err_and}
use Rattle.reason.proofs.Told.{refusal_some}
use Rattle.image_texel.proofs.Ask.{bad_size, bad_bytes, all_good}
use Rattle.image_texel.proofs.check_view.Goals as goal

pub returns-in_err-check_size : goal.returns-in_err-check_size
returns-in_err-check_size c =
    let p = err_from_is_err_and c.from_residual.result c.from_residual.ensures.1 in
    rw (p.1, p.2) (bad_size _ _ _ _ _ c.in_err-check_size.ensures (λ z. let k = refusal_some c.in_err-check_size.field-0.0 in omega arith))

pub blocks_of-count-requires : goal.blocks_of-count-requires
blocks_of-count-requires c = sym c.in_ok-check_size.ensures

pub returns-then-bytes-count : goal.returns-then-bytes-count
returns-then-bytes-count c = bad_bytes _ _ _ _ 0 _ c.in_ok-check_size.ensures refl c.blocks_of-count.ensures.0 c.if-bytes-count.true

pub returns : goal.returns
returns c = all_good _ _ _ _ 0 _ c.in_ok-check_size.ensures refl c.blocks_of-count.ensures.0 c.if-bytes-count.false
