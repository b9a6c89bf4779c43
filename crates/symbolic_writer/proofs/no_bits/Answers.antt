use mathlib.Core.Path.{refl}
use Rattle.bits.specs.Block.{block_number}
use Rattle.symbolic_writer.proofs.no_bits.Goals as goal

pub returns : goal.returns
unfolding block_number
returns c = refl
