use mathlib.Core.Path.{refl, ap, ap₂, ◌∙◌}
use mathlib.Core.Bool.{true}
use Prim.Native.Nat.{ℕ}
use Rattle.std.specs.Prelude.{Ok}
use Rattle.laws.specs.Table.{Bytes}
use Rattle.bits.specs.Block.{block_number}
use Rattle.reason.proofs.Answers.{fault_is, refused_is, accepted}
use Rattle.block_answer.specs.declared.Answer.TheVariants.{Refused, Faulty}
use Rattle.block_fault.specs.declared.Settings.{Settings}
use Rattle.block_fault.proofs.Sound.{coded_counts, void_read, coded_read}
use Rattle.spare_bits.specs.Spare.{spare_in}
use Rattle.symbolic_reader.specs.Answers.{nothing, done_with}
use Rattle.symbolic_reader.proofs.Laws.{coded_reading, void_reading, fault_reading, stopped_reading, passed_reading, promised}
use Rattle.symbolic_reader.proofs.read_symbolic.Goals as goal

pub returns-in_default : goal.returns-in_default
returns-in_default c =
    let k = refused_is c.unwrap_err.ensures c.check-checked.ensures in
    let it = promised c.args.fp c.args.block.now _
    (c.told.ensures ∙ ap (λ (n : ℕ). nothing (Refused n)) c.into.ensures ∙ stopped_reading c.args.fp c.args.block.now _ k.0 k.1) in
    record { value = it.0; answer_value = it.1 }

pub returns-in_default-settings : goal.returns-in_default-settings
returns-in_default-settings c =
    let bytes : Bytes c.args.block.now = λ i. (c.shared_slice_known-1.given i).fits in
    let k = fault_is _ c.unwrap_err-in_default-settings.ensures c.read_settings-settings.ensures in
    let it = promised c.args.fp c.args.block.now _
    (c.told-in_default-settings.ensures
    ∙ ap (λ (n : ℕ). nothing (Faulty n)) c.into-in_default-settings.ensures
    ∙ fault_reading c.args.fp (block_number c.load-b.result) _ k.0 k.1
    ∙ passed_reading c.args.fp c.args.block.now bytes (accepted c.in-Ok.is c.check-checked.ensures) c.load-b.ensures) in
    record { value = it.0; answer_value = it.1 }

pub returns-in-VoidExtent : goal.returns-in-VoidExtent
returns-in-VoidExtent c =
    let bytes : Bytes c.args.block.now = λ i. (c.shared_slice_known-1.given i).fits in
    let k = void_read c.args.fp (block_number c.load-b.result) (c.in-Ok-settings.is ∙ ap Ok c.in-VoidExtent.is) c.read_settings-settings.ensures in
    let it = promised c.args.fp c.args.block.now _
    (c.read.ensures
    ∙ ap₂ done_with (c.void_block.ensures ∙ rw c.is_volume-volume.ensures) c.no_spare.ensures
    ∙ void_reading _ _ k.0 k.1
    ∙ passed_reading c.args.fp c.args.block.now bytes (accepted c.in-Ok.is c.check-checked.ensures) c.load-b.ensures) in
    record { value = it.0; answer_value = it.1 }

pub spare_in-spare-requires : goal.spare_in-spare-requires
spare_in-spare-requires c =
    let k = coded_read c.args.fp (block_number c.load-b.result) (c.in-Ok-settings.is ∙ ap Ok c.in-Coded.is) c.read_settings-settings.ensures in
    rw k.2 ((coded_counts true _ _ k.0 k.1).1, refl, refl)

pub mode_block-requires : goal.mode_block-requires
mode_block-requires c =
    let k = coded_read c.args.fp (block_number c.load-b.result) (c.in-Ok-settings.is ∙ ap Ok c.in-Coded.is) c.read_settings-settings.ensures in
    let n = coded_counts true _ _ k.0 k.1 in
    rw k.2 (n.0, n.1, refl, refl)

pub returns-in-Coded : goal.returns-in-Coded
returns-in-Coded c =
    let bytes : Bytes c.args.block.now = λ i. (c.shared_slice_known-1.given i).fits in
    let k = coded_read c.args.fp (block_number c.load-b.result) (c.in-Ok-settings.is ∙ ap Ok c.in-Coded.is) c.read_settings-settings.ensures in
    let h = ap (λ (s : Settings). s.header) k.2 in
    let it = promised c.args.fp c.args.block.now _
    (c.read-in-Coded.ensures
    ∙ ap₂ done_with (c.mode_block.ensures ∙ rw h) (c.spare_in-spare.ensures ∙ ap (spare_in _) h)
    ∙ coded_reading _ _ k.0 k.1
    ∙ passed_reading c.args.fp c.args.block.now bytes (accepted c.in-Ok.is c.check-checked.ensures) c.load-b.ensures) in
    record { value = it.0; answer_value = it.1 }
