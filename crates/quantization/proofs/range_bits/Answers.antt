use Rattle.quantization.specs.Ranges.{range_bits}
use borrow.Author.Rules.{rules}
use Rattle.quantization.proofs.range_bits.Goals as goal

pub returns : goal.returns
unfolding range_bits
returns c = rw (c.sequence_bits.ensures, c.bits_at.ensures, c.encoding_at.ensures)
