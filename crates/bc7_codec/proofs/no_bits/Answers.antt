use mathlib.Core.Path.{refl}
use Rattle.bits.specs.Block.{block_number}
use Rattle.bc7_codec.proofs.no_bits.Goals as goal

pub returns : goal.returns
unfolding block_number
returns c = refl
