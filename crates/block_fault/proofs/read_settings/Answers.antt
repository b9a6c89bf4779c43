use mathlib.Core.Path.{◌≡◌, sym, ap, ◌∙◌}
use Prim.Native.Nat.{ℕ}
use Rattle.std.specs.Prelude.{min}
use native.Mathlib.Omega.{arith}
use mathlib.Core.Bool.{Bool}
use Rattle.bits.specs.Field.{field}
use Rattle.bits.specs.Block.{block_number}
use Rattle.footprint.specs.Footprint.{is_volume}
use Rattle.volume_mode.specs.Either.{block_mode_in}
use Rattle.block_mode.specs.declared.BlockMode.{BlockMode}
use Rattle.block_fault.specs.Bits.{mode_at}
use Rattle.block_fault.specs.declared.Contents.TheVariants.{Coded}
use Rattle.block_fault.specs.inner.Settings.{contents_of}
use Rattle.block_fault.proofs.Laws.{Narrow, narrow}
use Rattle.block_fault.proofs.Stages.{void_fault, reserved_fault}
use Rattle.reason.proofs.Answers.{opened, passed, read_is}
use Rattle.block_fault.proofs.read_settings.Goals as goal

-- the mode's eleven bits
low : (B n : ℕ) → n ≡ field B 0 (min 11 64) → Narrow B 0 11 11 n
low B n e = narrow B 0 11 11 (omega arith) (omega arith) e

mode_is : {volume : Bool} {n : ℕ} {m : BlockMode} (fp B : ℕ) → n ≡ field B 0 (min 11 64) → volume ≡ is_volume fp → m ≡ block_mode_in volume n → m ≡ mode_at fp B
unfolding mode_at
mode_is {n = n} fp B e v m = m ∙ rw (v, (low B n e).is)

pub overflow_cast-field_at : goal.overflow_cast-field_at
overflow_cast-field_at c = omega (arith, (low _ _ c.field_at.ensures).below)

pub returns-in-Reserved : goal.returns-in-Reserved
returns-in-Reserved c = reserved_fault c.args.hdr c.args.fp (block_number c.args.b) (sym (mode_is c.args.fp (block_number c.args.b) c.field_at.ensures c.requires c.block_mode_in.ensures) ∙ c.in-Reserved.is)

pub returns-in_default : goal.returns-in_default
returns-in_default c =
    opened c.unwrap_err.ensures c.void_stage-void.ensures
    (λ k e n. e ∙ void_fault c.args.hdr c.args.fp (block_number c.args.b) (sym (mode_is c.args.fp (block_number c.args.b) c.field_at.ensures c.requires c.block_mode_in.ensures) ∙ c.in-VoidExtent.is))

pub returns-in-Ok : goal.returns-in-Ok
unfolding contents_of
returns-in-Ok c =
    let m = sym (mode_is c.args.fp (block_number c.args.b) c.field_at.ensures c.requires c.block_mode_in.ensures) ∙ c.in-VoidExtent.is in
    (sym (passed c.in-Ok.is c.void_stage-void.ensures ∙ void_fault c.args.hdr c.args.fp (block_number c.args.b) m), rw m)

pub coded-requires : goal.coded-requires
coded-requires c = sym (mode_is c.args.fp (block_number c.args.b) c.field_at.ensures c.requires c.block_mode_in.ensures) ∙ c.in-Grid.is

pub returns-in_ok-coded-in-Grid : goal.returns-in_ok-coded-in-Grid
unfolding contents_of
returns-in_ok-coded-in-Grid c =
    let m = sym (mode_is c.args.fp (block_number c.args.b) c.field_at.ensures c.requires c.block_mode_in.ensures) ∙ c.in-Grid.is in
    let r = read_is c.in_ok-coded-in-Grid.was c.coded.ensures in
    (r.0, rw m (ap Coded r.1))
