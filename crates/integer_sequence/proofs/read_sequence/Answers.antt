use mathlib.Core.Path.{◌∙◌}
use native.Mathlib.Omega.{arith}
use Rattle.quantization.proofs.Ranges.{reach_le}
use Rattle.integer_sequence.specs.Reading.{sequence_at}
use Rattle.integer_sequence.proofs.Ranged.{bits_small, numbers_cap}
use Rattle.integer_sequence.proofs.read_sequence.Goals as goal

pub overflow_cast-w : goal.overflow_cast-w
overflow_cast-w c = omega (arith, c.sequence_bits-w.ensures, bits_small c.encoding_at-e.result c.bits_at-b.result c.args.n (omega arith) (omega arith))

pub read-requires : goal.read-requires
read-requires c =
    let k = c.args.range in
    (rw (c.bits_at-b.ensures, c.encoding_at-e.ensures) (reach_le k), omega (arith, c.at_most_64.ensures))

pub returns : goal.returns
unfolding sequence_at
returns c =
    c.read.ensures
    ∙ rw (c.at_most_64.ensures, c.part-s.ensures, c.sequence_bits-w.ensures, c.bits_at-b.ensures, c.encoding_at-e.ensures) (numbers_cap _ _ _ _)
