-- 01, "Faults of a block, first that holds (12 and 13 for solid blocks, 14 to 20 for the others)".
-- Assumes nothing.
use Rattle.std.specs.Prelude.{ℕ, Bool, not, List, [], ◌∷◌}
use Rattle.laws.specs.Choice.{pick, both}
use Rattle.block_header.specs.Reasons.{grid_reasons, endpoint_reasons}
use Rattle.laws.specs.Reasons.{Reason, when, first_of}
use Rattle.footprint.specs.Footprint.{is_volume}
use Rattle.void_extent.specs.Layout.{bad_void_extent, hdr_void_extent}
use Rattle.block_fault.specs.Bits.{mode_at, is_void, is_reserved, header_at}

-- 12: `bad_void_extent`; 13: "solid block with bit 9 set (HDR)". HDR taken or not: where it is taken there is no 13
unfoldable pub void_reasons : Bool → ℕ → ℕ → List Reason
void_reasons hdr fp B = when (bad_void_extent (is_volume fp) B) 12 ∷ when (both (not hdr) (hdr_void_extent B)) 13 ∷ []

-- 11: "reserved block mode", then 14 to 20
unfoldable pub mode_reasons : Bool → ℕ → ℕ → List Reason
mode_reasons hdr fp B = when (is_reserved (mode_at fp B)) 11 ∷ grid_reasons fp (header_at fp B) (endpoint_reasons hdr (header_at fp B) [])

-- the fault of the block B at a footprint, HDR taken or not, 0 for none
unfoldable pub fault_of : Bool → ℕ → ℕ → ℕ
unfolding mode_at void_reasons mode_reasons
fault_of hdr fp B = pick (is_void (mode_at fp B)) (first_of (void_reasons hdr fp B)) (first_of (mode_reasons hdr fp B))
