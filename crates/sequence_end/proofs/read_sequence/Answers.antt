use native.Mathlib.Omega.{arith}
use Rattle.quantization.proofs.Ranges.{reach_le}
use Rattle.integer_sequence.specs.Reading.{sequence_at}
use Rattle.integer_sequence.proofs.Ranged.{bits_small}
use Rattle.sequence_end.specs.Ending.{sequence_of}
use Rattle.sequence_end.proofs.read_sequence.Goals as goal

pub overflow_cast-end : goal.overflow_cast-end
overflow_cast-end c = omega (arith, c.sequence_bits-end.ensures, bits_small c.encoding_at-e.result c.bits_at-b.result c.args.n (omega arith) (omega arith))

pub missing_zero-zero-requires : goal.missing_zero-zero-requires
missing_zero-zero-requires c =
    let k = c.args.range in
    (rw (c.bits_at-b.ensures, c.encoding_at-e.ensures) (reach_le k), omega arith)

pub returns : goal.returns
unfolding sequence_of sequence_at
returns c =
    let p = c.before.before in
    rw (
      c.read_sequence-numbers.ensures,
      c.missing_zero-zero.ensures,
      p.part-s.ensures,
      p.sequence_bits-end.ensures,
      p.bits_at-b.ensures,
      p.encoding_at-e.ensures,
    )
