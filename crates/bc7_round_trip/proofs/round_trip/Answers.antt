use lib.ListN.{length}
use borrow.Author.Rules.{rules}
use Rattle.bc7_block.specs.Fields.{Sized}
use Rattle.bc7_round_trip.proofs.Laws.{together, demanded}
use Rattle.bc7_round_trip.proofs.round_trip.Goals as goal
use Rattle.bc7_round_trip.proofs.round_trip.Goals.{After-slice_known-2-1}

sized : (c : After-slice_known-2-1) → Sized c.args.s
sized c = record { endpoints = search rules; p_bits_lem = search rules; primary = search rules; secondary = search rules }

pub returns : goal.returns
returns c = let d = c in
    let r = d in
    let w = r in
    let z = w in
    let s = z.args.s in
    let old = z.args.out.now in
    let e = together s (length old) _ _ _ w.write_bc7-writing.ensures.value r.read_bc7-reading.ensures.value d.decode_bc7-shown.ensures.value in record { value = e; out_after = d.decode_bc7-shown.ensures.out_after; demanded = demanded s (sized c) old _ _ e d.decode_bc7-shown.ensures.out_after }
