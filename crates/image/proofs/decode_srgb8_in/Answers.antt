use Rattle.std.proofs.lemmas.Result.{err_from_is_err_and}
use lib.ListN.{length}
use Rattle.interpolation.specs.declared.Kind.TheVariants.{Srgb8}
use Rattle.image_layout.proofs.Calls.{Passed, passed, refused, decoded}
use Rattle.image.proofs.decode_srgb8_in.Goals as goal

pub returns-in_err-g : goal.returns-in_err-g
returns-in_err-g c =
    let p = err_from_is_err_and c.from_residual.result c.from_residual.ensures.1 in
    let a = c.args in
    let it = refused a.reading a.fp Srgb8 a.width a.height a.blocks.now a.out.now _ c.in_err-g.ensures in
    rw (p.1, p.2) (record { answer = it.answer; told = it.told; image = it.image })

pub decode_bytes-requires : goal.decode_bytes-requires
decode_bytes-requires c =
    let a = c.args in
    let e = c.in_ok-g.ensures in
    let o = passed a.fp a.width a.height (length a.blocks.now) (length a.out.now) c.in_ok-g.g e.0 e.1 in
    record { sound_grid = o.is_sound; s_len = o.exact_bytes; out_len = o.exact_places }

pub returns : goal.returns
returns c =
    let a = c.args in
    let e = c.in_ok-g.ensures in
    let d = c.decode_bytes.ensures in
    let it = decoded a.reading a.fp Srgb8 a.width a.height a.blocks.now a.out.now _ _ _ e.0 e.1 d.value d.out_after in
    record { answer = it.answer; told = it.told; image = it.image }
