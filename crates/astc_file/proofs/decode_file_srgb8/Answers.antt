use borrow.Author.Rules.{rules}
use Rattle.interpolation.specs.declared.Kind.TheVariants.{Srgb8}
use Rattle.std.proofs.lemmas.Result.{err_from_is_err_and}
use Rattle.astc_file.proofs.Calls.{file_refused, file_decoded, long, behind}
use Rattle.astc_file.proofs.decode_file_srgb8.Goals as goal

pub returns-in_err-h : goal.returns-in_err-h
returns-in_err-h c =
    let p = err_from_is_err_and c.from_residual.result c.from_residual.ensures.1 in
    let it = file_refused Srgb8 _ c.args.out.now _ c.in_err-h.ensures.answer in
    rw (p.1, p.2) (record { answer = it.answer; told = it.told; image = it.image })

pub slice_bounds-decode_image_srgb8-count : goal.slice_bounds-decode_image_srgb8-count
slice_bounds-decode_image_srgb8-count c = long _ _ c.in_ok-h.ensures.answer

pub slice_bounds-decode_image_srgb8-start : goal.slice_bounds-decode_image_srgb8-start
slice_bounds-decode_image_srgb8-start c = let l = long _ _ c.in_ok-h.ensures.answer in search rules

pub returns : goal.returns
returns c =
    let h = c.in_ok-h.ensures.answer in
    let d = c.decode_image_srgb8.ensures in
    let it = file_decoded Srgb8 _ c.args.out.now _ h _ _ _ (behind _ _ h) (record { answer = d.answer; told = d.told; image = d.image }) in
    record { answer = it.answer; told = it.told; image = it.image }
