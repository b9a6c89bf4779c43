use Rattle.integer_sequence.proofs.Groups.{narrow, narrow_bits}
use Rattle.sequence_numbers.proofs.read_from.Goals as goal

pub bits_from-requires : goal.bits_from-requires
bits_from-requires c = (narrow_bits _ (narrow _ c.in-Bits.is c.requires.0), c.requires.1, c.requires.2)

pub groups_from-requires : goal.groups_from-requires
groups_from-requires c = (narrow _ c.in-Trits.is c.requires.0, c.requires.1, c.requires.2)

pub groups_from-requires-in-Quints : goal.groups_from-requires-in-Quints
groups_from-requires-in-Quints c = (narrow _ c.in-Quints.is c.requires.0, c.requires.1, c.requires.2)

pub returns-in-Bits : goal.returns-in-Bits
returns-in-Bits c = rw c.in-Bits.is c.bits_from.ensures

pub returns-in-Trits : goal.returns-in-Trits
returns-in-Trits c = rw c.in-Trits.is c.groups_from.ensures

pub returns-in-Quints : goal.returns-in-Quints
returns-in-Quints c = rw c.in-Quints.is c.groups_from-in-Quints.ensures
