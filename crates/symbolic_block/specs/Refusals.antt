-- 01, "Refusals of a sheet, in order": the first reason why a symbolic block is not acceptable.
-- Assumes nothing.
use Rattle.std.specs.Prelude.{◌≡◌, Bool, true, false, not, List, [], ◌∷◌, ℕ, ◌-◌, ◌*◌, ◌/◌, eqb, leb, ltb, get_or, None, Option, Some}
use Rattle.laws.specs.Choice.{pick, both, either, all}
use Rattle.quantization.specs.Ranges.{most_at}
use Rattle.block_mode.specs.declared.WeightGrid.{WeightGrid}
use Rattle.footprint.specs.Footprint.{is_volume}
use Rattle.volume_mode.specs.Either.{block_mode_of}
use Rattle.block_header.specs.declared.BlockHeader.{BlockHeader}
use Rattle.block_header.specs.Counts.{weight_count, endpoint_count, endpoint_range_of}
use Rattle.block_header.specs.Reasons.{some_hdr, grid_reasons, endpoint_reasons}
use Rattle.laws.specs.Reasons.{Reason, when, first_of, some}
use Rattle.void_extent.specs.Layout.{axes_of, extent_most, bad_extents}
use Rattle.symbolic_block.specs.declared.SymbolicBlock.{SymbolicBlock}
use Rattle.symbolic_block.specs.Fields.{sheet_grid, header_of, is_marked, colour_in, extent_in, mode_in, endpoint_in, weight_in}

-- 1: "footprint above 13"; 02, h: "in these refusal 1 is a footprint above 23"
unfoldable pub unknown_footprint : ℕ → Bool
unknown_footprint fp = ltb 23 fp

-- ---- 31: "a field outside its limits, or an unused field not 0"

-- not one of low..high
abbrev pub outside : ℕ → ℕ → ℕ → Bool
outside low high x = either (ltb x low) (ltb high x)

-- an unused field that is not 0
abbrev pub in_use : ℕ → Bool
in_use x = ltb 0 x

-- of N numbers the first n are at most `most`, the others, which are unused, 0
unfoldable pub within : ℕ → ℕ → ℕ → (ℕ → ℕ) → Bool
within N n most x = all (λ i. leb (x i) (pick (ltb i n) most 0)) N

-- "solid mark 0 or 1"
unfoldable pub bad_mark : SymbolicBlock → Bool
bad_mark s = ltb 1 s.mark

-- 02, i: "an HDR mark, 0 or 1"
unfoldable pub bad_hdr : SymbolicBlock → Bool
bad_hdr s = ltb 1 s.hdr

-- "grid sides 2..12, range 0..11, planes 1..2"
unfoldable pub bad_width : SymbolicBlock → Bool
bad_width s = outside 2 12 s.width

unfoldable pub bad_height : SymbolicBlock → Bool
bad_height s = outside 2 12 s.height

-- 02, h: "a grid depth, in a mode sheet 1 for flat footprints and 2 to 6 for volumes, else 31"
unfoldable pub bad_grid_depth : ℕ → SymbolicBlock → Bool
bad_grid_depth fp s = pick (is_volume fp) (outside 2 6 s.depth) (outside 1 1 s.depth)

unfoldable pub bad_range : SymbolicBlock → Bool
bad_range s = ltb 11 s.range

unfoldable pub bad_planes : SymbolicBlock → Bool
bad_planes s = outside 1 2 s.planes

-- "plane channel 0..3 (unused with one plane)"
unfoldable pub bad_component : SymbolicBlock → Bool
bad_component s = ltb (pick (eqb s.planes 2) 3 0) s.component

-- "partitions 1..4"
unfoldable pub bad_partitions : SymbolicBlock → Bool
bad_partitions s = outside 1 4 s.partitions

-- "partition index 0..1023 and selector 0..3 (both unused with one)"
unfoldable pub bad_index : SymbolicBlock → Bool
bad_index s = ltb (pick (eqb s.partitions 1) 0 1023) s.index

unfoldable pub bad_selector : SymbolicBlock → Bool
bad_selector s = ltb (pick (eqb s.partitions 1) 0 3) s.selector

-- "four modes 0..15 (those past the partition count unused)"
unfoldable pub bad_modes : SymbolicBlock → Bool
bad_modes s = not (within 4 s.partitions 15 (mode_in s))

-- "four colours 0..65535, four extents 0..8191"; 02, h: "a third pair of extents, 0 for flat ones", and for volumes "their limit in a sheet is 511"
unfoldable pub bad_colours : SymbolicBlock → Bool
bad_colours s = not (within 4 4 65535 (colour_in s))

unfoldable pub bad_extent_fields : ℕ → SymbolicBlock → Bool
bad_extent_fields fp s = not (within 6 (2 * axes_of (is_volume fp)) (extent_most (is_volume fp)) (extent_in s))

-- N unused numbers, not all 0
unfoldable pub some_in_use : ℕ → (ℕ → ℕ) → Bool
some_in_use N x = not (within N 0 0 x)

-- ---- 32: "no block mode has this grid, range and planes"

abbrev pub is_no_mode : Option ℕ → Bool
is_no_mode (Some m) = false
is_no_mode None = true

unfoldable pub no_block_mode : WeightGrid → Bool
no_block_mode g = is_no_mode (block_mode_of g)

-- ---- 33: "modes don't fit the selector"

-- "selector 0 with unequal modes, or selector k with a mode of class (mode/4, rounded down) other than k-1 or k"
abbrev pub misfit : ℕ → ℕ → ℕ → Bool
misfit selector first mode =
    pick (eqb selector 0) (not (eqb mode first)) (not (either (eqb (mode / 4) (selector - 1)) (eqb (mode / 4) selector)))

-- "used modes only and several partitions"
unfoldable pub modes_misfit : BlockHeader → Bool
modes_misfit h =
    both (ltb 1 h.partitions) (some (λ i. misfit h.selector (get_or h.modes 0 0) (get_or h.modes i 0)) h.partitions)

-- ---- 34: "an endpoint number or weight above its range, or an unused one not 0"

unfoldable pub bad_endpoints : SymbolicBlock → Bool
bad_endpoints s = not (within 18 (endpoint_count (header_of s)) (most_at (endpoint_range_of (header_of s))) (endpoint_in s))

unfoldable pub bad_weights : SymbolicBlock → Bool
bad_weights s = not (within 64 (weight_count (sheet_grid s)) (most_at s.range) (weight_in s))

-- ---- 35, 02, i: the HDR mark "set with none", no partition's mode being HDR

unfoldable pub marked_without : SymbolicBlock → Bool
marked_without s = both (is_marked s) (not (some_hdr (header_of s)))

-- ---- the lists

-- 1; 31; 32; 14 to 17; 33; 18; 19; 20; 34, for a mode sheet; 02, i: the HDR mark "clear with such a mode is still 20; set with none is
-- new refusal 35, last in order"
unfoldable pub mode_refusals : ℕ → SymbolicBlock → List Reason
mode_refusals fp s =
    when (unknown_footprint fp) 1
    ∷ when (bad_mark s) 31
    ∷ when (bad_hdr s) 31
    ∷ when (bad_width s) 31
    ∷ when (bad_height s) 31
    ∷ when (bad_grid_depth fp s) 31
    ∷ when (bad_range s) 31
    ∷ when (bad_planes s) 31
    ∷ when (bad_component s) 31
    ∷ when (bad_partitions s) 31
    ∷ when (bad_index s) 31
    ∷ when (bad_selector s) 31
    ∷ when (bad_modes s) 31
    ∷ when (some_in_use 4 (colour_in s)) 31
    ∷ when (some_in_use 6 (extent_in s)) 31
    ∷ when (no_block_mode (sheet_grid s)) 32
    ∷ grid_reasons fp (header_of s)
    (when (modes_misfit (header_of s)) 33
    ∷ endpoint_reasons (is_marked s) (header_of s)
    (when (bad_endpoints s) 34
    ∷ when (bad_weights s) 34
    ∷ when (marked_without s) 35
    ∷ []))

-- "A solid sheet is refused by 1, 31, 12 only, 31 also for any unused number." Its HDR mark is a used field.
unfoldable pub void_refusals : ℕ → SymbolicBlock → List Reason
void_refusals fp s =
    when (unknown_footprint fp) 1
    ∷ when (bad_hdr s) 31
    ∷ when (bad_colours s) 31
    ∷ when (bad_extent_fields fp s) 31
    ∷ when (in_use s.width) 31
    ∷ when (in_use s.height) 31
    ∷ when (in_use s.depth) 31
    ∷ when (in_use s.range) 31
    ∷ when (in_use s.planes) 31
    ∷ when (in_use s.component) 31
    ∷ when (in_use s.partitions) 31
    ∷ when (in_use s.index) 31
    ∷ when (in_use s.selector) 31
    ∷ when (some_in_use 4 (mode_in s)) 31
    ∷ when (some_in_use 18 (endpoint_in s)) 31
    ∷ when (some_in_use 64 (weight_in s)) 31
    ∷ when (bad_extents (is_volume fp) (extent_in s)) 12
    ∷ []

-- mark 1 is a void extent (01: solid sheet); any other a mode sheet, for which a mark above 1 is 31
unfoldable pub refusals : ℕ → SymbolicBlock → List Reason
refusals fp s = pick (eqb s.mark 1) (void_refusals fp s) (mode_refusals fp s)

-- the refusal of a symbolic block at a footprint, 0 for none
unfoldable pub refusal_of : ℕ → SymbolicBlock → ℕ
unfolding refusals mode_refusals void_refusals within unknown_footprint bad_mark bad_hdr bad_width bad_height bad_grid_depth bad_range bad_planes bad_component bad_partitions bad_index bad_selector bad_modes bad_colours bad_extent_fields some_in_use no_block_mode modes_misfit bad_endpoints bad_weights marked_without bad_extents
refusal_of fp s = first_of (refusals fp s)

-- "A sheet is acceptable at a footprint when none of its refusals holds there."
abbrev pub Acceptable : ℕ → SymbolicBlock → Type 0
Acceptable fp s = refusal_of fp s ≡ 0
