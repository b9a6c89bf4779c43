use lib.ListN.{length, length-map}
use borrow.Author.Rules.{rules}
use Rattle.interpolation.specs.declared.Kind.TheVariants.{Srgb8}
use Rattle.symbolic_block.specs.Fields.{Sized}
use Rattle.round_trip.proofs.Laws.{together, demanded}
use Rattle.round_trip.proofs.round_trip_srgb8.Goals as goal
use Rattle.round_trip.proofs.round_trip_srgb8.Goals.{After-slice_known-2-1}

sized : (c : After-slice_known-2-1) → Sized c.args.s
sized c = record {
  colours_4 = search rules;
  extents_6 = search rules;
  modes_4 = search rules;
  endpoints_18 = c.well_formed.1.0.1.1.1.1.1.1.1.1.1.1.1.1.1.1.1.1.0.1.0.1;
  weights_64 = c.well_formed.1.0.1.1.1.1.1.1.1.1.1.1.1.1.1.1.1.1.1.0.1.0.1;
}

pub returns : goal.returns
returns c = let d = c in
    let r = d in
    let w = r in
    let z = w in
    let fp = z.args.fp in
    let s = z.args.s in
    let old = z.args.out.now in
    let e = together Srgb8 fp s (length old) _ _ _ w.write_symbolic-writing.ensures.value r.read_symbolic-reading.ensures.value d.decode_srgb8-shown.ensures.value in record { value = e; out_after = d.decode_srgb8-shown.ensures.out_after; demanded = demanded Srgb8 fp s (sized c) old _ _ e d.decode_srgb8-shown.ensures.out_after }
