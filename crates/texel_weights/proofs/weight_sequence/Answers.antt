use mathlib.Core.Path.{◌≡◌, ◌∙◌}
use native.Mathlib.Omega.{arith}
use Rattle.quantization.specs.Ranges.{range_bits}
use Rattle.integer_sequence.specs.Reading.{sequence_at}
use Rattle.block_header.specs.Counts.{weight_count, weight_bits}
use Rattle.block_header.proofs.Laws.{range_bits_le}
use borrow.Author.Rules.{rules}
use Rattle.texel_weights.proofs.weight_sequence.Goals as goal

-- 64 weights take few bits
pub overflow_cast-w : goal.overflow_cast-w
unfolding weight_bits
overflow_cast-w c = omega (arith, c.weight_bits-w.ensures, range_bits_le c.args.g.range (weight_count c.args.g) 64 c.requires)

pub returns : goal.returns
unfolding weight_bits range_bits sequence_at
returns c = c.part.ensures ∙ rw (c.reversed.ensures, c.weight_bits-w.ensures)
