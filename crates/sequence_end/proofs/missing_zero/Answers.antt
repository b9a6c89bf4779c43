use Rattle.integer_sequence.proofs.Groups.{narrow}
use Rattle.sequence_end.proofs.missing_zero.Goals as goal

pub zero_from_cut-requires : goal.zero_from_cut-requires
zero_from_cut-requires c = (narrow _ c.in-Bits.is c.requires.0, c.requires.1)

pub zero_from_cut-requires-in-Trits : goal.zero_from_cut-requires-in-Trits
zero_from_cut-requires-in-Trits c = (narrow _ c.in-Trits.is c.requires.0, c.requires.1)

pub zero_from_cut-requires-in-Quints : goal.zero_from_cut-requires-in-Quints
zero_from_cut-requires-in-Quints c = (narrow _ c.in-Quints.is c.requires.0, c.requires.1)

pub returns-in-Bits : goal.returns-in-Bits
returns-in-Bits c = rw c.in-Bits.is c.zero_from_cut.ensures

pub returns-in-Trits : goal.returns-in-Trits
returns-in-Trits c = rw c.in-Trits.is c.zero_from_cut-in-Trits.ensures

pub returns-in-Quints : goal.returns-in-Quints
returns-in-Quints c = rw c.in-Quints.is c.zero_from_cut-in-Quints.ensures
