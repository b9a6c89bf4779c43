use native.Mathlib.Omega.{arith}
use Rattle.caption_block.proofs.Laws.{captioned}
use Rattle.caption_block.proofs.caption.Goals as goal

pub returns : goal.returns
returns c = let w = c in
    let s = w in
    let v = s in
    let a = v.args in let it = captioned a.e0 a.e1 a.wanted (omega arith) (omega arith) v.greys.ensures v.weights_of-weights.ensures s.sheet_of.ensures
    w.write_symbolic-writing.ensures.value in record { value = it.0; by_index = it.1 }
