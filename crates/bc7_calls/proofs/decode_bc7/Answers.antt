use mathlib.Core.Path.{refl, sym, ap, ◌∙◌}
use native.Mathlib.Omega.{arith}
use lib.ListN.{length}
use Rattle.block_answer.specs.Told.{number_told}
use Rattle.laws.specs.Table.{Bytes}
use Rattle.reason.proofs.Told.{refusal_some}
use Rattle.bc7_calls.proofs.Laws.{refused_answer, refused_out, sizes, shown_answer, shown_out, answer_told, texels_length}
use Rattle.bc7_calls.proofs.decode_bc7.Goals as goal

pub returns-in-Err : goal.returns-in-Err
returns-in-Err c =
    let e = c.into.ensures ∙ c.in-Err.ensures in
    let block = c.args.block.now in
    let out = c.args.out.now in
    let a = refused_answer block out _ e (λ z. omega (arith, refusal_some c.in-Err.refusal, c.into.ensures, z)) in
    record {
      value = a;
      out_after = refused_out block out _ e (λ z. omega (arith, refusal_some c.in-Err.refusal, c.into.ensures, z));
      result_value = ap number_told a ∙ answer_told block (length out);
    }

pub copy_from_slice-requires : goal.copy_from_slice-requires
copy_from_slice-requires c =
    (sizes c.args.block.now c.args.out.now _ c.in-Ok.ensures refl).1 ∙ sym (texels_length _ _ c.decode_into-fault.ensures.out_after)

pub returns-in-Ok : goal.returns-in-Ok
returns-in-Ok c =
    let block = c.args.block.now in
    let out = c.args.out.now in
    let e = c.in-Ok.ensures in
    let bytes : Bytes block = λ i. (c.type_inv.block i).fits in
    let l = c.load.ensures in
    let d = c.decode_into-fault.ensures in
    let a = c.answer_for.ensures ∙ shown_answer block out _ e refl _ bytes l _ d.value in
    record {
      value = a;
      out_after = c.copy_from_slice.ensures.after ∙ d.out_after ∙ shown_out block out _ e refl _ bytes l;
      result_value = ap number_told a ∙ answer_told block (length out);
    }
