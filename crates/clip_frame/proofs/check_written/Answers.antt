use mathlib.Core.Path.{sym}
use Rattle.std.proofs.lemmas.Result.{err_from_is_err_and}
use Rattle.clip_frame.proofs.Refusals.{size_fine, write_own, write_4, write_5, write_0}
use Rattle.clip_frame.proofs.check_written.Goals as goal

pub returns-in_err-check_own : goal.returns-in_err-check_own
returns-in_err-check_own c =
    let p = err_from_is_err_and c.from_residual.result c.from_residual.ensures.1 in
    rw (p.1, p.2) (write_own _ _ _ _ c.in_err-check_own.ensures)

pub blocks_of-blocks-requires : goal.blocks_of-blocks-requires
blocks_of-blocks-requires c = size_fine _ (sym c.in_ok-check_own.ensures)

pub returns-then-bytes-blocks : goal.returns-then-bytes-blocks
returns-then-bytes-blocks c = write_4 _ _ _ c.in_ok-check_own.ensures c.blocks_of-blocks.ensures.0 c.if-bytes-blocks.true

pub returns-then-room-bytes : goal.returns-then-room-bytes
returns-then-room-bytes c = write_5 _ _ _ c.in_ok-check_own.ensures c.blocks_of-blocks.ensures.0 c.if-bytes-blocks.false c.if-room-bytes.true

pub returns : goal.returns
returns c = write_0 _ _ _ c.in_ok-check_own.ensures c.blocks_of-blocks.ensures.0 c.if-bytes-blocks.false c.if-room-bytes.false
