use mathlib.Core.Path.{◌≡◌}
use lib.ListN.{length}
use Rattle.laws.proofs.Filling.{Filling}
use Rattle.image_layout.specs.Numbers.{fault_at_in}
use Rattle.image_layout.specs.Faulty.{tally_of}
use Rattle.image_faults.proofs.each_fault.Given as goal

abbrev pub invariant-loop-b : goal.invariant-loop-b
invariant-loop-b l = Filling (fault_at_in l.reading l.footprint l.kind l.blocks) 0 (length l.initial.faults) l.faults l.b × (l.t ≡ tally_of (fault_at_in l.reading l.footprint l.kind l.blocks) l.b)
