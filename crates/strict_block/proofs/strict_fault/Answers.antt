use mathlib.Core.Path.{sym, ◌∙◌}
use Rattle.bits.specs.Block.{block_number}
use Rattle.reason.proofs.Answers.{fault_is, read_is}
use Rattle.strict_block.proofs.Laws.{no_fault, told_other, told_none, told_21}
use Rattle.strict_block.proofs.strict_fault.Goals as goal

pub written-requires : goal.written-requires
written-requires c =
    let k = read_is c.in-Ok.is c.read_settings.ensures in
    record { low = c.requires.0; no_fault = no_fault c.args.hdr c.args.fp (block_number c.args.b) k.0; is = k.1 }

pub returns-in-Err : goal.returns-in-Err
returns-in-Err c = c.into.ensures ∙ told_other c.args.hdr c.args.fp (block_number c.args.b) _ (fault_is _ c.in-Err.is c.read_settings.ensures)

pub returns-then-same : goal.returns-then-same
returns-then-same c =
    told_none c.args.hdr c.args.fp (block_number c.args.b) (read_is c.in-Ok.is c.read_settings.ensures).0 _ c.written.ensures (sym c.if-same.true ∙ c.same.ensures)

pub returns-else-same : goal.returns-else-same
returns-else-same c =
    told_21 c.args.hdr c.args.fp (block_number c.args.b) (read_is c.in-Ok.is c.read_settings.ensures).0 _ c.written.ensures (sym c.if-same.false ∙ c.same.ensures)
