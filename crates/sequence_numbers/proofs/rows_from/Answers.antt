use native.Mathlib.Omega.{arith}
use Rattle.quantization.proofs.Ranges.{reach_le}
use Rattle.sequence_numbers.proofs.rows_from.Goals as goal

pub read_from-requires : goal.read_from-requires
read_from-requires c = (rw (c.bits_at-b.ensures, c.encoding_at-e.ensures) (reach_le c.args.range), omega arith, omega arith)

pub read_from-requires-2 : goal.read_from-requires-2
read_from-requires-2 c = (rw (c.bits_at-b.ensures, c.encoding_at-e.ensures) (reach_le c.args.range), omega arith, omega arith)

pub returns : goal.returns
returns c = record { eight = rw (← c.bits_at-b.ensures, ← c.encoding_at-e.ensures) c.read_from.ensures; eight_2 = rw (← c.bits_at-b.ensures, ← c.encoding_at-e.ensures) c.read_from-2.ensures }
