use Rattle.pvrtc_rows.specs.inner.Rows.{EndRows}
use lib.Pow.{pow_pos}
use native.Mathlib.Omega.{arith}
use Rattle.pvrtc_rows.proofs.Rows.{window_starts}
use borrow.Author.Rules.{rules}
use Rattle.pvrtc_rows.proofs.start_window.Goals as goal

pub unpack_row-requires : goal.unpack_row-requires
unpack_row-requires c = let st = c in record { words_sized = st.requires.words_sized; y_bound = (pow_pos _, st.requires.first_len.0) }

pub returns : goal.returns
returns c = let t = c in
    let l = t in
    let f = l in
    let ends : EndRows _ _ _ _ _ = record { at_first = c.unpack_row.ensures; at_last = c.unpack_last.ensures } in record { end_rows = ends; window = window_starts _ _ _ _ _ _ _ _ c.words_along.ensures.0 ends c.copy_row.ensures.filled c.copy_row.ensures.to_len c.copy_row-2.ensures.filled c.copy_row-2.ensures.to_len }
