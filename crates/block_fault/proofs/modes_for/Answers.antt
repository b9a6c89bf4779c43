use Rattle.block_fault.proofs.Laws.{four_modes}
use Rattle.block_fault.proofs.modes_for.Goals as goal

pub returns : goal.returns
returns c = four_modes _ _ _ c.mode_for-m0.ensures c.mode_for-m1.ensures c.mode_for-m2.ensures c.mode_for-m3.ensures
