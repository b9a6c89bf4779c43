use Rattle.sequence_writer.proofs.write.Goals as goal

pub returns-in-Bits : goal.returns-in-Bits
returns-in-Bits c = rw c.in-Bits.is c.write_bits.ensures

pub returns-in-Trits : goal.returns-in-Trits
returns-in-Trits c = rw c.in-Trits.is c.write_trits.ensures

pub returns-in-Quints : goal.returns-in-Quints
returns-in-Quints c = rw c.in-Quints.is c.write_quints.ensures
