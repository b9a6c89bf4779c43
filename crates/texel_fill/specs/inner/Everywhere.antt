-- The numbers of the largest block that shows one texel everywhere.
-- Assumes nothing.
use Rattle.std.specs.Prelude.{ℕ, ◌%◌, List, get_or}
use Rattle.laws.specs.Table.{tab}
use Rattle.interpolation.specs.declared.Texel.{Texel}
use Rattle.block_buffer.specs.inner.Painted.{four_of}

unfoldable pub everywhere : Texel → List ℕ
everywhere t = tab (λ k. get_or (four_of t) (k % 4) 0) 864
