use mathlib.Core.Path.{sym, ◌∙◌}
use native.Mathlib.Omega.{arith}
use Rattle.footprint.proofs.Laws.{flat}
use Rattle.reason.proofs.Answers.{fault_is, read_is}
use borrow.Author.Rules.{rules}
use Rattle.image_faults.proofs.ordinary_fault.Goals as goal

pub read_settings-requires : goal.read_settings-requires
read_settings-requires c = let h = c.requires in sym (flat _ (omega arith))

pub returns-in-Err : goal.returns-in-Err
returns-in-Err c = c.into.ensures ∙ sym (fault_is _ c.in-Err.is (rw c.takes_hdr.ensures at c.read_settings.ensures)).0

pub returns-in-Ok : goal.returns-in-Ok
returns-in-Ok c = sym (read_is c.in-Ok.is (rw c.takes_hdr.ensures at c.read_settings.ensures)).0
