-- The faults that the stages of reading a block tell: each the first of its reasons that holds, 0 for none.
-- Assumes nothing.
use Rattle.std.specs.Prelude.{ℕ, Bool, [], ◌∷◌}
use Rattle.laws.specs.Reasons.{when, first_of}
use Rattle.block_mode.specs.declared.WeightGrid.{WeightGrid}
use Rattle.block_header.specs.declared.BlockHeader.{BlockHeader}
use Rattle.block_header.specs.Reasons.{grid_too_large, too_many_weights, weight_bits_outside, too_many_endpoints, too_few_endpoint_bits, hdr_refused}

-- 14 to 16, which speak of the grid alone
unfoldable pub grid_fault : ℕ → WeightGrid → ℕ
grid_fault fp g = first_of (when (grid_too_large fp g) 14 ∷ when (too_many_weights g) 15 ∷ when (weight_bits_outside g) 16 ∷ [])

-- 18 to 20, HDR taken or not
unfoldable pub endpoint_fault : Bool → BlockHeader → ℕ
endpoint_fault hdr h = first_of (when (too_many_endpoints h) 18 ∷ when (too_few_endpoint_bits h) 19 ∷ when (hdr_refused hdr h) 20 ∷ [])
