use mathlib.Core.Path.{sym, ap, ◌∙◌}
use mathlib.Core.Bool.{Bool}
use Rattle.bits.specs.Block.{block_number}
use Rattle.block_reading.specs.Faults.{strict_fault}
use native.Mathlib.Omega.{arith}
use Rattle.footprint.proofs.Laws.{flat}
use Rattle.image_faults.proofs.fault_of.Goals as goal

pub strict_fault-requires : goal.strict_fault-requires
strict_fault-requires c = let h = c.requires in (omega arith, sym (flat _ (omega arith)))

pub returns-in-Ordinary : goal.returns-in-Ordinary
returns-in-Ordinary c = rw c.in-Ordinary.is c.ordinary_fault.ensures

pub returns-in-Strict : goal.returns-in-Strict
returns-in-Strict c =
    let a = c.args in
    rw c.in-Strict.is (c.strict_fault.ensures ∙ ap (λ (t : Bool). strict_fault t a.fp (block_number a.block)) c.takes_hdr.ensures)
