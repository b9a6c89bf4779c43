use mathlib.Core.Path.{◌≡◌, sym, ap, ◌∙◌}
use mathlib.Core.Bool.{true}
use native.Mathlib.Omega.{arith}
use Rattle.reason.proofs.Told.{refusal_some}
use Rattle.bits.specs.Block.{number_of, bytes_of, block_number}
use Rattle.laws.specs.Table.{Bytes}
use Rattle.bits.proofs.Halves.{loaded}
use Rattle.block_fault.specs.Faults.{fault_of}
use Rattle.block_reading.specs.Canonical.{canonical_in}
use Rattle.block_answer.specs.Told.{answer_for}
use Rattle.canonical_image.specs.Frames.{one_refusal}
use Rattle.canonical_image.proofs.Laws.{taken, one_refused, one_done}
use Rattle.canonical_image.proofs.canonical_block.Goals as goal

pub returns-in-Err : goal.returns-in-Err
returns-in-Err c =
    let a = c.args in
    let e = c.into.ensures ∙ c.in-Err.ensures in
    let it = one_refused a.fp a.block.now a.out.now (λ q. let k = refusal_some c.in-Err.refusal in omega (arith, c.in-Err.ensures ∙ q)) _ e in
    record { value = it.0; out_after = it.1 }

pub canonical-c-requires : goal.canonical-c-requires
canonical-c-requires c = ((taken _ _ _ (sym c.in-Ok.ensures)).known, c.is_volume.ensures)

pub put_block-requires : goal.put_block-requires
put_block-requires c = (taken _ _ _ (sym c.in-Ok.ensures)).room

pub returns-in-Ok : goal.returns-in-Ok
returns-in-Ok c =
    let a = c.args in
    let s = a.block.now in
    let z = sym c.in-Ok.ensures in
    let bytes : Bytes s = λ i. (c.shared_slice_known-1.given i).fits in
    let number : block_number c.load.result ≡ number_of s = c.load.ensures ∙ loaded s bytes (taken _ _ _ z).sixteen in
    let d = one_done a.fp s a.out.now z in
    record {
      value = c.answer_for.ensures ∙ ap answer_for (c.canonical-c.ensures.fault_value ∙ ap (fault_of true a.fp) number) ∙ d.0;
      out_after = c.put_block.ensures ∙ c.store.ensures ∙ ap (bytes_of 16) (c.canonical-c.ensures.block_value ∙ ap (canonical_in a.fp) number) ∙ d.1;
    }
