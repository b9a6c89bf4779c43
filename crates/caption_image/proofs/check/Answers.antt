use mathlib.Core.Path.{sym, ap, ◌∙◌}
use Prim.Native.Nat.{ℕ, ◌*◌}
use native.Mathlib.Omega.{arith}
use Rattle.std.proofs.lemmas.Result.{err_from_is_err_and}
use Rattle.reason.proofs.Told.{refusal_some}
use Rattle.caption_image.proofs.Laws.{area, refused_size, refused_4, refused_5, refused_none}
use Rattle.caption_image.proofs.check.Goals as goal

pub returns-in_err-check_size : goal.returns-in_err-check_size
returns-in_err-check_size c =
    let p = err_from_is_err_and c.from_residual.result c.from_residual.ensures.1 in
    rw (p.1, p.2) (refused_size _ _ _ _ _ (refusal_some _) c.in_err-check_size.ensures)

pub blocks_of-blocks-requires : goal.blocks_of-blocks-requires
blocks_of-blocks-requires c = sym c.in_ok-check_size.ensures

pub returns-then-bytes-blocks : goal.returns-then-bytes-blocks
returns-then-bytes-blocks c =
    refused_4 _ _ _ _ (sym c.in_ok-check_size.ensures) (λ q. c.if-bytes-blocks.true (q ∙ ap (λ (n : ℕ). 16 * n) (sym c.blocks_of-blocks.ensures.0)))

pub overflow_mul-height : goal.overflow_mul-height
overflow_mul-height c = omega (arith, area _ _ (sym c.in_ok-check_size.ensures))

pub returns-then-greys-height : goal.returns-then-greys-height
returns-then-greys-height c =
    refused_5 _ _ _ _ (sym c.in_ok-check_size.ensures) (c.if-bytes-blocks.false ∙ ap (λ (n : ℕ). 16 * n) c.blocks_of-blocks.ensures.0) c.if-greys-height.true

pub returns : goal.returns
returns c =
    refused_none _ _ _ _ (sym c.in_ok-check_size.ensures) (c.if-bytes-blocks.false ∙ ap (λ (n : ℕ). 16 * n) c.blocks_of-blocks.ensures.0) c.if-greys-height.false
