-- 01, "Numbers told to the caller": the reasons 14 to 20, which faults of blocks and refusals of sheets have in common.
-- Assumes nothing.
use Rattle.std.specs.Prelude.{ℕ, ◌+◌, ◌*◌, ◌/◌, Bool, not, List, ◌∷◌, ltb, eqb, get_or}
use Rattle.laws.specs.Choice.{both, either}
use Rattle.laws.specs.Reasons.{Reason, when, some}
use Rattle.footprint.specs.Footprint.{width_of, height_of, depth_of}
use Rattle.color_endpoint.specs.Modes.{is_hdr}
use Rattle.block_mode.specs.declared.WeightGrid.{WeightGrid}
use Rattle.block_header.specs.declared.BlockHeader.{BlockHeader}
use Rattle.block_header.specs.Counts.{weight_count, weight_bits, endpoint_count, bits_left}

-- 14: "weight grid wider or higher than the footprint"; 02, h: for volumes it speaks of three axes. A flat grid and a flat footprint have depth 1
unfoldable pub grid_too_large : ℕ → WeightGrid → Bool
grid_too_large fp g = either (ltb (width_of fp) g.width) (either (ltb (height_of fp) g.height) (ltb (depth_of fp) g.depth))

-- 15: "more than 64 weights, both planes counted"
unfoldable pub too_many_weights : WeightGrid → Bool
too_many_weights g = ltb 64 (weight_count g)

-- 16: "weight bits below 24 or above 96"
unfoldable pub weight_bits_outside : WeightGrid → Bool
weight_bits_outside g = either (ltb (weight_bits g) 24) (ltb 96 (weight_bits g))

-- 17: "two planes with four partitions"
unfoldable pub four_with_two_planes : BlockHeader → Bool
four_with_two_planes h = both (eqb h.grid.planes 2) (eqb h.partitions 4)

-- 18: "more than 18 endpoint numbers"
unfoldable pub too_many_endpoints : BlockHeader → Bool
too_many_endpoints h = ltb 18 (endpoint_count h)

-- 19: "endpoint bits below ceil(13C/5), C the endpoint numbers"
unfoldable pub too_few_endpoint_bits : BlockHeader → Bool
too_few_endpoint_bits h = ltb (bits_left h) ((13 * endpoint_count h + 4) / 5)

-- 20: "any partition has mode 2, 3, 7, 11, 14 or 15"
unfoldable pub some_hdr : BlockHeader → Bool
some_hdr h = some (λ p. is_hdr (get_or h.modes p 0)) h.partitions

-- 20 where HDR is not taken; where it is taken (02, i: "In kind 2 faults 13 and 20 don't exist") there is no such reason
unfoldable pub hdr_refused : Bool → BlockHeader → Bool
hdr_refused hdr h = both (not hdr) (some_hdr h)

-- 14 to 17, in front of others
abbrev pub grid_reasons : ℕ → BlockHeader → List Reason → List Reason
grid_reasons fp h rest =
    when (grid_too_large fp h.grid) 14 ∷ when (too_many_weights h.grid) 15 ∷ when (weight_bits_outside h.grid) 16
    ∷ when (four_with_two_planes h) 17 ∷ rest

-- 18 to 20, in front of others
abbrev pub endpoint_reasons : Bool → BlockHeader → List Reason → List Reason
endpoint_reasons hdr h rest = when (too_many_endpoints h) 18 ∷ when (too_few_endpoint_bits h) 19 ∷ when (hdr_refused hdr h) 20 ∷ rest
