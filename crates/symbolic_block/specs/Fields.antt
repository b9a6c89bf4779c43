-- 01, "Fields": a symbolic block (01: sheet) and the numbers that it holds. 02, i: "Sheets gain an HDR mark". 02, h: "The sheet gains a grid
-- depth", "and solid sheets gain a third pair of extents".
-- Assumes nothing.
use Rattle.std.specs.Prelude.{◌≡◌, Bool, List, ℕ, ◌<◌, eqb, length, get_or}
use Rattle.encoding.specs.declared.Stored.{Stored}
use Rattle.integer_sequence.specs.Reading.{stored}
use Rattle.block_mode.specs.declared.WeightGrid.{WeightGrid}
use Rattle.block_header.specs.declared.BlockHeader.{BlockHeader}
use Rattle.symbolic_block.specs.declared.SymbolicBlock.{SymbolicBlock}

-- the weight grid of a mode sheet, and its settings without the numbers
abbrev pub sheet_grid : SymbolicBlock → WeightGrid
sheet_grid s = record { width = s.width; height = s.height; depth = s.depth; range = s.range; planes = s.planes }

abbrev pub header_of : SymbolicBlock → BlockHeader
header_of s = record {
  grid = sheet_grid s;
  component = s.component;
  partitions = s.partitions;
  index = s.index;
  selector = s.selector;
  modes = s.modes;
}

-- 02, i: the HDR mark is set
abbrev pub is_marked : SymbolicBlock → Bool
is_marked s = eqb s.hdr 1

-- number i of each list, 0 past the last
abbrev pub colour_in : SymbolicBlock → ℕ → ℕ
colour_in s i = get_or s.colours i 0

abbrev pub extent_in : SymbolicBlock → ℕ → ℕ
extent_in s i = get_or s.extents i 0

abbrev pub mode_in : SymbolicBlock → ℕ → ℕ
mode_in s i = get_or s.modes i 0

abbrev pub stored_in : List Stored → ℕ → ℕ
stored_in xs i = (get_or xs i (stored 0)).0

abbrev pub endpoint_in : SymbolicBlock → ℕ → ℕ
endpoint_in s i = stored_in s.endpoints i

abbrev pub weight_in : SymbolicBlock → ℕ → ℕ
weight_in s i = stored_in s.weights i

-- the lists have their lengths
pub record Sized (s : SymbolicBlock) : Type 0 where
  pub colours_4 : length s.colours ≡ 4
  pub extents_6 : length s.extents ≡ 6
  pub modes_4 : length s.modes ≡ 4
  pub endpoints_18 : length s.endpoints ≡ 18
  pub weights_64 : length s.weights ≡ 64

-- the numbers fit the struct's types
pub record Typed (s : SymbolicBlock) : Type 0 where
  pub mark_u8 : s.mark < 256
  pub hdr_u8 : s.hdr < 256
  pub colours_u16 : (i : ℕ) → colour_in s i < 65536
  pub extents_u16 : (i : ℕ) → extent_in s i < 65536
  pub width_u8 : s.width < 256
  pub height_u8 : s.height < 256
  pub depth_u8 : s.depth < 256
  pub range_u8 : s.range < 256
  pub planes_u8 : s.planes < 256
  pub component_u8 : s.component < 256
  pub partitions_u8 : s.partitions < 256
  pub index_u16 : s.index < 65536
  pub selector_u8 : s.selector < 256
  pub modes_u8 : (i : ℕ) → mode_in s i < 256
  pub endpoints_u8 : (i : ℕ) → endpoint_in s i < 256
  pub weights_u8 : (i : ℕ) → weight_in s i < 256
