-- 02, l: a sheet as a list of sixty numbers: "mode, partition, rotation, index selection, endpoints, P bits and two sets of sixteen indices".
-- Assumes nothing.
use Rattle.std.specs.Prelude.{ℕ, eqb}
use Rattle.laws.specs.Choice.{pick}
use Rattle.bc7_block.specs.declared.Bc7Block.{Bc7Block}
use Rattle.bc7_block.specs.Fields.{value_in}

-- the mode, then the fields in the block's order
unfoldable pub sheet_number : Bc7Block → ℕ → ℕ
unfolding value_in
sheet_number s k = pick (eqb k 0) s.mode (value_in s k)
