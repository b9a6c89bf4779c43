use native.Mathlib.Omega.{arith}
use Rattle.integer_sequence.proofs.Groups.{narrow}
use Rattle.integer_sequence.proofs.reading.read.Goals as goal

pub read_groups-requires : goal.read_groups-requires
read_groups-requires c = (narrow _ c.in-Bits.is c.requires.0, omega arith)

pub read_groups-requires-in-Trits : goal.read_groups-requires-in-Trits
read_groups-requires-in-Trits c = (narrow _ c.in-Trits.is c.requires.0, omega arith)

pub read_groups-requires-in-Quints : goal.read_groups-requires-in-Quints
read_groups-requires-in-Quints c = (narrow _ c.in-Quints.is c.requires.0, omega arith)

pub returns-in-Bits : goal.returns-in-Bits
returns-in-Bits c = rw c.in-Bits.is c.read_groups.ensures

pub returns-in-Trits : goal.returns-in-Trits
returns-in-Trits c = rw c.in-Trits.is c.read_groups-in-Trits.ensures

pub returns-in-Quints : goal.returns-in-Quints
returns-in-Quints c = rw c.in-Quints.is c.read_groups-in-Quints.ensures
