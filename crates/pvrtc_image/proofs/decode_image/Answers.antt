use mathlib.Core.Path.{sym}
use Rattle.std.proofs.lemmas.Result.{err_from_is_err_and}
use Rattle.pvrtc_image.proofs.Calls.{refused_by, sized, room, shown}
use Rattle.pvrtc_image.proofs.decode_image.Goals as goal

pub returns-in_err-check_image : goal.returns-in_err-check_image
returns-in_err-check_image c =
    let p = err_from_is_err_and c.from_residual.result c.from_residual.ensures.1 in
    rw (p.1, p.2) (record { answer = c.in_err-check_image.ensures; image = refused_by _ _ _ _ _ c.in_err-check_image.ensures })

pub returns : goal.returns
returns c =
    let e = sym c.in_ok-check_image.ensures in
    record { answer = c.in_ok-check_image.ensures; image = shown _ _ _ _ e _ (rw (c.side_bits.ensures, c.side_bits-2.ensures) at c.show_rows.ensures) }

pub show_rows-requires : goal.show_rows-requires
show_rows-requires c =
    let a = c.args in
    let e = sym c.in_ok-check_image.ensures in
    record {
      words_sized = rw (c.side_bits.ensures, c.side_bits-2.ensures) (sized a.width a.height a.words.now a.out.now e);
      out_len = rw (c.side_bits.ensures, c.side_bits-2.ensures) (room a.width a.height a.words.now a.out.now e);
    }
