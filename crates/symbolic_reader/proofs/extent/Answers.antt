use native.Mathlib.Omega.{arith}
use Rattle.bits.specs.Block.{block_number}
use Rattle.void_extent.proofs.Extents.{extent_small}
use Rattle.symbolic_reader.proofs.extent.Goals as goal

pub overflow_cast-result : goal.overflow_cast-result
overflow_cast-result c = let a = c.args in omega (arith, c.extent.ensures, extent_small a.volume (block_number a.b) a.i)

pub returns : goal.returns
returns c = c.extent.ensures
