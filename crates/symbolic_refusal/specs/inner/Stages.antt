-- 01, "Refusals of a sheet, in order", in stages: the tests of a symbolic block that tell the same number, joined.
-- Assumes nothing.
use Rattle.std.specs.Prelude.{Bool, List, [], ◌∷◌, ℕ, eqb}
use Rattle.laws.specs.Choice.{pick, either}
use Rattle.laws.specs.Reasons.{Reason, when}
use Rattle.footprint.specs.Footprint.{is_volume}
use Rattle.void_extent.specs.Layout.{bad_extents}
use Rattle.symbolic_block.specs.declared.SymbolicBlock.{SymbolicBlock}
use Rattle.symbolic_block.specs.Fields.{sheet_grid, colour_in, extent_in, mode_in, endpoint_in, weight_in}
use Rattle.symbolic_block.specs.Refusals.{in_use, unknown_footprint, bad_mark, bad_hdr, bad_width, bad_height, bad_grid_depth, bad_range, bad_planes, bad_component, bad_partitions, bad_index, bad_selector, bad_modes, bad_colours, bad_extent_fields, some_in_use, no_block_mode, bad_endpoints, bad_weights, marked_without}

-- the first of two told numbers, where 0 tells nothing
abbrev pub or_else : ℕ → ℕ → ℕ
or_else a b = pick (eqb a 0) b a

-- 34 beside what is told: it comes before 35 and after all others
abbrev pub or34 : ℕ → ℕ
or34 n = pick (either (eqb n 0) (eqb n 35)) 34 n

-- ---- 31 of a mode sheet

unfoldable pub bad_grid : ℕ → SymbolicBlock → Bool
bad_grid fp s = either (bad_width s) (either (bad_height s) (either (bad_grid_depth fp s) (either (bad_range s) (bad_planes s))))

unfoldable pub bad_partitioning : SymbolicBlock → Bool
bad_partitioning s = either (bad_component s) (either (bad_partitions s) (either (bad_index s) (bad_selector s)))

unfoldable pub bad_lists : SymbolicBlock → Bool
bad_lists s = either (bad_modes s) (either (some_in_use 4 (colour_in s)) (some_in_use 6 (extent_in s)))

unfoldable pub bad_fields : ℕ → SymbolicBlock → Bool
unfolding bad_grid bad_partitioning bad_lists
bad_fields fp s = either (bad_mark s) (either (bad_hdr s) (either (bad_grid fp s) (either (bad_partitioning s) (bad_lists s))))

-- ---- 31 of a void extent

unfoldable pub bad_shown : ℕ → SymbolicBlock → Bool
bad_shown fp s = either (bad_hdr s) (either (bad_colours s) (bad_extent_fields fp s))

unfoldable pub grid_in_use : SymbolicBlock → Bool
grid_in_use s = either (in_use s.width) (either (in_use s.height) (either (in_use s.depth) (either (in_use s.range) (in_use s.planes))))

unfoldable pub partitioning_in_use : SymbolicBlock → Bool
partitioning_in_use s = either (in_use s.component) (either (in_use s.partitions) (either (in_use s.index) (in_use s.selector)))

unfoldable pub numbers_in_use : SymbolicBlock → Bool
numbers_in_use s = either (some_in_use 4 (mode_in s)) (either (some_in_use 18 (endpoint_in s)) (some_in_use 64 (weight_in s)))

unfoldable pub bad_void_fields : ℕ → SymbolicBlock → Bool
unfolding bad_shown grid_in_use partitioning_in_use numbers_in_use
bad_void_fields fp s = either (bad_shown fp s) (either (grid_in_use s) (either (partitioning_in_use s) (numbers_in_use s)))

-- ---- the stages

-- 1, 31 and 32
unfoldable pub field_reasons : ℕ → SymbolicBlock → List Reason
unfolding bad_fields
field_reasons fp s = when (unknown_footprint fp) 1 ∷ when (bad_fields fp s) 31 ∷ when (no_block_mode (sheet_grid s)) 32 ∷ []

-- 34 and 35
unfoldable pub number_reasons : SymbolicBlock → List Reason
number_reasons s = when (either (bad_endpoints s) (bad_weights s)) 34 ∷ when (marked_without s) 35 ∷ []

-- 1, 31 and 12
unfoldable pub void_stages : ℕ → SymbolicBlock → List Reason
unfolding bad_void_fields
void_stages fp s = when (unknown_footprint fp) 1 ∷ when (bad_void_fields fp s) 31 ∷ when (bad_extents (is_volume fp) (extent_in s)) 12 ∷ []
