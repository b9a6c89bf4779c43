use lib.ListN.{length}
use Rattle.round_trip.specs.Demand.{word_kind}
use Rattle.round_trip.proofs.Laws.{four_together, rewritten}
use Rattle.round_trip.proofs.rewrite_words.Goals as goal

pub returns : goal.returns
returns c = let d2 = c.before.before in
    let d = d2.before.before.before.before.before in
    let w = d.before.before.before in
    let r = w.before in
    let a = r.args in
    let block = a.block.now in
    let old = a.out.now in
    let old2 = a.again.now in
    let k = word_kind a.half in
    let e = four_together k a.fp block (length old) (length old2) _ _ _ _
    r.read_symbolic-reading.ensures.value w.write_symbolic-writing.ensures.value d.show_words-shown.ensures.value d2.show_words-shown_again.ensures.value in
    let f = d.show_words-shown.ensures.out_after in
    let g = d2.show_words-shown_again.ensures.out_after in record { value = e; out_after = f; again_after = g; rewritten = λ h. rewritten k a.fp block old old2 _ _ h _ e f g }
