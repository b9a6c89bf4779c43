-- A symbolic block (01: sheet) as one list of 107 numbers, both ways: 01's fields in its order, then the HDR mark of 02, i,
-- and what 02, h, adds: the grid's depth and the third axis' two extents.
-- Assumes nothing.
use Rattle.std.specs.Prelude.{ℕ, ◌+◌, List, [], ◌∷◌, ◌++◌, ltb, get_or}
use Rattle.laws.specs.Choice.{pick}
use Rattle.laws.specs.Table.{tab}
use Rattle.integer_sequence.specs.Reading.{stored}
use Rattle.symbolic_block.specs.declared.SymbolicBlock.{SymbolicBlock}
use Rattle.symbolic_block.specs.Fields.{colour_in, extent_in, mode_in, endpoint_in, weight_in}

-- ---- a symbolic block's list

-- all fields before the endpoint numbers, in the order of 01, "Fields"
abbrev pub settings_with : SymbolicBlock → ℕ → ℕ → ℕ → ℕ → List ℕ
settings_with s mode0 mode1 mode2 mode3 =
    s.mark
    ∷ colour_in s 0 ∷ colour_in s 1 ∷ colour_in s 2 ∷ colour_in s 3
    ∷ extent_in s 0 ∷ extent_in s 1 ∷ extent_in s 2 ∷ extent_in s 3
    ∷ s.width ∷ s.height ∷ s.range ∷ s.planes
    ∷ s.component ∷ s.partitions ∷ s.index ∷ s.selector
    ∷ mode0 ∷ mode1 ∷ mode2 ∷ mode3
    ∷ []

abbrev pub setting_numbers : SymbolicBlock → List ℕ
setting_numbers s = settings_with s (mode_in s 0) (mode_in s 1) (mode_in s 2) (mode_in s 3)

-- what 02, i and h, add, after the weights: so every field of 01 keeps its place
abbrev pub added_of : SymbolicBlock → List ℕ
added_of s = s.hdr ∷ s.depth ∷ extent_in s 4 ∷ extent_in s 5 ∷ []

-- the settings, then the endpoint numbers, then the weights, then the added fields
unfoldable pub flat_of : SymbolicBlock → List ℕ
unfolding tab
flat_of s = setting_numbers s ++ (tab (endpoint_in s) 18 ++ (tab (weight_in s) 64 ++ added_of s))

-- ---- a list's symbolic block

-- the fields at their places in that order, from two such lists: the colours, the extents and the partition index from the first, all
-- others from the second
unfoldable pub block_over : List ℕ → List ℕ → SymbolicBlock
unfolding tab
block_over words bytes = record {
  mark = get_or bytes 0 0;
  hdr = get_or bytes 103 0;
  colours = tab (λ i. get_or words (1 + i) 0) 4;
  extents = tab (λ i. get_or words (pick (ltb i 4) (5 + i) (101 + i)) 0) 6;
  width = get_or bytes 9 0;
  height = get_or bytes 10 0;
  depth = get_or bytes 104 0;
  range = get_or bytes 11 0;
  planes = get_or bytes 12 0;
  component = get_or bytes 13 0;
  partitions = get_or bytes 14 0;
  index = get_or words 15 0;
  selector = get_or bytes 16 0;
  modes = tab (λ i. get_or bytes (17 + i) 0) 4;
  endpoints = tab (λ i. stored (get_or bytes (21 + i) 0)) 18;
  weights = tab (λ i. stored (get_or bytes (39 + i) 0)) 64;
}

-- the symbolic block of one list, its numbers as they are: also those that are too large for the struct's types
abbrev pub block_from : List ℕ → SymbolicBlock
block_from numbers = block_over numbers numbers
