use mathlib.Core.Path.{sym}
use Rattle.std.proofs.lemmas.Result.{err_from_is_err_and}
use Rattle.clip_frame.proofs.Refusals.{size_fine, frame_own, frame_52, frame_0}
use Rattle.clip_frame.proofs.check_frame.Goals as goal

pub returns-in_err-check_own : goal.returns-in_err-check_own
returns-in_err-check_own c =
    let p = err_from_is_err_and c.from_residual.result c.from_residual.ensures.1 in
    rw (p.1, p.2) (frame_own _ _ _ c.in_err-check_own.ensures)

pub blocks_of-blocks-requires : goal.blocks_of-blocks-requires
blocks_of-blocks-requires c = size_fine _ (sym c.in_ok-check_own.ensures)

pub returns-then-n-blocks : goal.returns-then-n-blocks
returns-then-n-blocks c = frame_52 _ _ c.in_ok-check_own.ensures c.blocks_of-blocks.ensures.0 c.if-n-blocks.true

pub returns : goal.returns
returns c = frame_0 _ _ c.in_ok-check_own.ensures c.blocks_of-blocks.ensures.0 c.if-n-blocks.false
