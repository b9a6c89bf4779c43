use mathlib.Core.Path.{sym, ap, ◌∙◌}
use native.Mathlib.Omega.{arith}
use Prim.Native.Nat.{◌^◌, ◌<◌}
use Rattle.std.specs.Prelude.{Ok}
use Rattle.bits.specs.Block.{block_number}
use Rattle.bits.proofs.Blocks.{block_lt}
use Rattle.reason.proofs.Answers.{fault_is, read_is}
use Rattle.block_fault.proofs.Sound.{void_read}
use Rattle.block_reading.proofs.Solid.{solid}
use Rattle.strict_block.proofs.Laws.{form_faulty, form_sound}
use Rattle.strict_block.proofs.canonical.Goals as goal

pub returns-in-Err-clause-block_value : goal.returns-in-Err-clause-block_value
returns-in-Err-clause-block_value c = form_faulty c.args.fp (block_number c.args.b) _ (fault_is _ c.in-Err.is c.read_settings.ensures)

pub returns-in-Ok-VoidExtent-clause-block_value : goal.returns-in-Ok-VoidExtent-clause-block_value
unfolding block_number
returns-in-Ok-VoidExtent-clause-block_value c =
    let k = void_read c.args.fp (block_number c.args.b) (c.in-Ok-VoidExtent.is ∙ ap Ok c.in-Ok-VoidExtent.field-0-is) c.read_settings.ensures in
    let fits : block_number c.args.b < 2 ^ 128 = block_lt c.args.b.hi c.args.b.lo (omega (arith, c.well_formed.1.0)) (omega (arith, c.well_formed.1.0)) in
    form_sound c.args.fp (block_number c.args.b) k.0 _ (sym (solid c.args.fp (block_number c.args.b) fits k.1 k.0))

pub written_coded-requires : goal.written_coded-requires
written_coded-requires c =
    let k = read_is (c.in-Ok-Coded.is ∙ ap Ok c.in-Ok-Coded.field-0-is) c.read_settings.ensures in
    record { low = c.requires.0; no_fault = k.0; is = k.1 }

pub returns-in-Ok-Coded-clause-block_value : goal.returns-in-Ok-Coded-clause-block_value
returns-in-Ok-Coded-clause-block_value c =
    form_sound c.args.fp (block_number c.args.b) (read_is (c.in-Ok-Coded.is ∙ ap Ok c.in-Ok-Coded.field-0-is) c.read_settings.ensures).0 _ c.written_coded.ensures
