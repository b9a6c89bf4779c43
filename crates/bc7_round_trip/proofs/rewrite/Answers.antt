use Rattle.bc7_round_trip.proofs.Laws.{both_answers, rewritten}
use Rattle.bc7_round_trip.proofs.rewrite.Goals as goal

pub returns : goal.returns
returns c = let block = c.args.block.now in
    let e = both_answers block _ _ c.read_bc7-reading.ensures.value c.write_bc7-writing.ensures.value in record { value = e; rewritten = λ h. rewritten block h _ e }
