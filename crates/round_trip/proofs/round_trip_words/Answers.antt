use lib.ListN.{length, length-map}
use borrow.Author.Rules.{rules}
use Rattle.symbolic_block.specs.Fields.{Sized}
use Rattle.round_trip.specs.Demand.{word_kind}
use Rattle.round_trip.proofs.Laws.{together, demanded}
use Rattle.round_trip.proofs.round_trip_words.Goals as goal
use Rattle.round_trip.proofs.round_trip_words.Goals.{After-slice_known-2-1}

sized : (c : After-slice_known-2-1) → Sized c.args.s
sized c = record {
  colours_4 = search rules;
  extents_6 = search rules;
  modes_4 = search rules;
  endpoints_18 = c.well_formed.1.1.0.1.1.1.1.1.1.1.1.1.1.1.1.1.1.1.1.0.1.0.1;
  weights_64 = c.well_formed.1.1.0.1.1.1.1.1.1.1.1.1.1.1.1.1.1.1.1.1.0.1.0.1;
}

pub returns : goal.returns
returns c = let d = c in
    let r = d in
    let w = r in
    let z = w in
    let fp = z.args.fp in
    let s = z.args.s in
    let old = z.args.out.now in
    let k = word_kind z.args.half in
    let e = together k fp s (length old) _ _ _ w.write_symbolic-writing.ensures.value r.read_symbolic-reading.ensures.value d.show_words-shown.ensures.value in record { value = e; out_after = d.show_words-shown.ensures.out_after; demanded = demanded k fp s (sized c) old _ _ e d.show_words-shown.ensures.out_after }
