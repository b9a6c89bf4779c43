-- 01, "Words of demand 3": the symbolic block that a block without fault reads as. B is the number of its 128 bits.
-- Assumes nothing.
use Rattle.std.specs.Prelude.{◌≡◌, ℕ, ◌+◌, ◌*◌, ◌^◌, ◌<◌, ltb}
use Rattle.laws.specs.Choice.{pick}
use Rattle.laws.specs.Table.{tab}
use Rattle.integer_sequence.specs.Reading.{stored}
use Rattle.bits.specs.Field.{field}
use Rattle.block_header.specs.declared.BlockHeader.{BlockHeader}
use Rattle.block_header.specs.Reasons.{some_hdr}
use Rattle.block_fault.specs.Bits.{mode_at, is_void, grid_in, partitions_at, index_at, selector_at, base_at, extra_at, component_at, mode_of, header_at, endpoint_at, weight_at}
use Rattle.footprint.specs.Footprint.{is_volume}
use Rattle.void_extent.specs.Layout.{extent_at, colour_at}
use Rattle.symbolic_block.specs.declared.SymbolicBlock.{SymbolicBlock}
use Rattle.symbolic_block.specs.Fields.{colour_in, extent_in, mode_in, endpoint_in, weight_in}

-- 02, i: the HDR mark of a mode sheet, "set exactly when some partition's mode is HDR"
abbrev pub mark_of : BlockHeader → ℕ
mark_of h = pick (some_hdr h) 1 0

-- a mode sheet; colours and extents unused
unfoldable pub mode_block : BlockHeader → (ℕ → ℕ) → (ℕ → ℕ) → SymbolicBlock
mode_block h endpoint weight = record {
  mark = 0;
  hdr = mark_of h;
  colours = tab (λ i. 0) 4;
  extents = tab (λ i. 0) 6;
  width = h.grid.width;
  height = h.grid.height;
  depth = h.grid.depth;
  range = h.grid.range;
  planes = h.grid.planes;
  component = h.component;
  partitions = h.partitions;
  index = h.index;
  selector = h.selector;
  modes = h.modes;
  endpoints = tab (λ i. stored (endpoint i)) 18;
  weights = tab (λ i. stored (weight i)) 64;
}

-- a void extent (01: solid sheet) with its HDR mark; all else unused
unfoldable pub void_block : ℕ → (ℕ → ℕ) → (ℕ → ℕ) → SymbolicBlock
void_block hdr colour extent = record {
  mark = 1;
  hdr = hdr;
  colours = tab colour 4;
  extents = tab extent 6;
  width = 0;
  height = 0;
  depth = 0;
  range = 0;
  planes = 0;
  component = 0;
  partitions = 0;
  index = 0;
  selector = 0;
  modes = tab (λ i. 0) 4;
  endpoints = tab (λ i. stored 0) 18;
  weights = tab (λ i. stored 0) 64;
}

-- "a sheet of zeros"
unfoldable pub zero_block : SymbolicBlock
unfolding tab
zero_block = record {
  mark = 0;
  hdr = 0;
  colours = tab (λ i. 0) 4;
  extents = tab (λ i. 0) 6;
  width = 0;
  height = 0;
  depth = 0;
  range = 0;
  planes = 0;
  component = 0;
  partitions = 0;
  index = 0;
  selector = 0;
  modes = tab (λ i. 0) 4;
  endpoints = tab (λ i. stored 0) 18;
  weights = tab (λ i. stored 0) 64;
}

-- what the reader tells of a block without fault; the HDR mark: 02, i, "In a solid sheet it is bit 9"
unfoldable pub read_block : ℕ → ℕ → SymbolicBlock
unfolding tab field mode_block void_block header_at endpoint_at weight_at extent_at colour_at mode_at
read_block fp B =
    pick (is_void (mode_at fp B)) (void_block (field B 9 1) (colour_at B) (extent_at (is_volume fp) B))
    (mode_block (header_at fp B) (endpoint_at B (header_at fp B)) (weight_at B (header_at fp B)))

-- a field that only void extents use, and one that only the others use: "each unused one is 0"
abbrev pub of_void : ℕ → ℕ → ℕ → ℕ
of_void fp B x = pick (is_void (mode_at fp B)) x 0

abbrev pub of_mode : ℕ → ℕ → ℕ → ℕ
of_mode fp B x = pick (is_void (mode_at fp B)) 0 x

-- the selector, and the mode bits past it
abbrev pub selector_in : ℕ → ℕ
selector_in B = selector_at B (partitions_at B)

abbrev pub modes_code_in : ℕ → ℕ → ℕ
modes_code_in fp B = extra_at B (grid_in (mode_at fp B)) (partitions_at B) (selector_in B) * 2 ^ 4 + base_at B (partitions_at B)

-- "It then reads as a sheet when each used field is what "Bits of a block" and "Packed numbers" make of its bits and each unused one is 0."
pub record ReadsAs (fp B : ℕ) (s : SymbolicBlock) : Type 0 where
  pub mark : s.mark ≡ of_void fp B 1
  pub hdr : s.hdr ≡ pick (is_void (mode_at fp B)) (field B 9 1) (mark_of (header_at fp B))
  pub colours : (i : ℕ) → i < 4 → colour_in s i ≡ of_void fp B (colour_at B i)
  pub extents : (i : ℕ) → i < 6 → extent_in s i ≡ of_void fp B (extent_at (is_volume fp) B i)
  pub width : s.width ≡ of_mode fp B (grid_in (mode_at fp B)).width
  pub height : s.height ≡ of_mode fp B (grid_in (mode_at fp B)).height
  pub depth : s.depth ≡ of_mode fp B (grid_in (mode_at fp B)).depth
  pub range : s.range ≡ of_mode fp B (grid_in (mode_at fp B)).range
  pub planes : s.planes ≡ of_mode fp B (grid_in (mode_at fp B)).planes
  pub component : s.component ≡ of_mode fp B (component_at B (grid_in (mode_at fp B)) (partitions_at B) (selector_in B))
  pub partitions : s.partitions ≡ of_mode fp B (partitions_at B)
  pub index : s.index ≡ of_mode fp B (index_at B (partitions_at B))
  pub selector : s.selector ≡ of_mode fp B (selector_in B)
  pub modes : (i : ℕ) → i < 4 → mode_in s i
      ≡ of_mode fp B (pick (ltb i (partitions_at B)) (mode_of (partitions_at B) (selector_in B) (modes_code_in fp B) i) 0)
  pub endpoints : (i : ℕ) → i < 18 → endpoint_in s i ≡ of_mode fp B (endpoint_at B (header_at fp B) i)
  pub weights : (i : ℕ) → i < 64 → weight_in s i ≡ of_mode fp B (weight_at B (header_at fp B) i)
