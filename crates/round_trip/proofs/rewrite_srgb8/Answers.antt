use lib.ListN.{length}
use Rattle.interpolation.specs.declared.Kind.TheVariants.{Srgb8}
use Rattle.round_trip.proofs.Laws.{four_together, rewritten}
use Rattle.round_trip.proofs.rewrite_srgb8.Goals as goal

pub returns : goal.returns
returns c = let d2 = c.before.before in
    let d = d2.before.before.before.before.before in
    let w = d.before.before.before in
    let r = w.before in
    let a = r.args in
    let block = a.block.now in
    let old = a.out.now in
    let old2 = a.again.now in
    let e = four_together Srgb8 a.fp block (length old) (length old2) _ _ _ _
    r.read_symbolic-reading.ensures.value w.write_symbolic-writing.ensures.value d.decode_srgb8-shown.ensures.value d2.decode_srgb8-shown_again.ensures.value in
    let f = d.decode_srgb8-shown.ensures.out_after in
    let g = d2.decode_srgb8-shown_again.ensures.out_after in record { value = e; out_after = f; again_after = g; rewritten = λ h. rewritten Srgb8 a.fp block old old2 _ _ h _ e f g }
