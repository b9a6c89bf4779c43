use Rattle.quantization.proofs.Ranges.{reach_le}
use Rattle.sequence_numbers.proofs.numbers_from.Goals as goal

pub read_from-requires : goal.read_from-requires
read_from-requires c = (rw (c.bits_at-b.ensures, c.encoding_at-e.ensures) (reach_le c.args.range), c.requires.0, c.requires.1)

pub returns : goal.returns
returns c = rw (← c.bits_at-b.ensures, ← c.encoding_at-e.ensures) c.read_from.ensures
