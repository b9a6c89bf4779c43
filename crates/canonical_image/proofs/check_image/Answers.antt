use mathlib.Core.Path.{sym, ap, ◌∙◌}
use Prim.Native.Nat.{ℕ, ◌*◌}
use native.Mathlib.Omega.{arith}
use Rattle.std.proofs.lemmas.Result.{err_from_is_err_and}
use Rattle.reason.proofs.Told.{refusal_some}
use Rattle.canonical_image.proofs.Laws.{frame_size, frame_4, frame_5, frame_none}
use Rattle.canonical_image.proofs.check_image.Goals as goal

pub returns-in_err-check_size : goal.returns-in_err-check_size
returns-in_err-check_size c =
    let p = err_from_is_err_and c.from_residual.result c.from_residual.ensures.1 in
    rw (p.1, p.2) (frame_size _ _ _ _ _ _ c.in_err-check_size.ensures (λ z. let k = refusal_some c.in_err-check_size.field-0.0 in omega arith))

pub blocks_of-blocks-requires : goal.blocks_of-blocks-requires
blocks_of-blocks-requires c = sym c.in_ok-check_size.ensures

pub returns-then-bytes-blocks : goal.returns-then-bytes-blocks
returns-then-bytes-blocks c =
    frame_4 _ _ _ _ _ (sym c.in_ok-check_size.ensures) (λ q. c.if-bytes-blocks.true (q ∙ ap (λ (n : ℕ). 16 * n) (sym c.blocks_of-blocks.ensures.0)))

pub returns-then-places-bytes : goal.returns-then-places-bytes
returns-then-places-bytes c =
    frame_5 _ _ _ _ _ (sym c.in_ok-check_size.ensures) (c.if-bytes-blocks.false ∙ ap (λ (n : ℕ). 16 * n) c.blocks_of-blocks.ensures.0) c.if-places-bytes.true

pub returns : goal.returns
returns c =
    frame_none _ _ _ _ _ (sym c.in_ok-check_size.ensures) (c.if-bytes-blocks.false ∙ ap (λ (n : ℕ). 16 * n) c.blocks_of-blocks.ensures.0) c.if-places-bytes.false
