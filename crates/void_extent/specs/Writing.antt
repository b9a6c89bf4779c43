-- 01, "Bits of a block": the 128 bits of a void extent (01: solid block), from its HDR mark, its extents and its colours.
-- Assumes nothing.
use Rattle.std.specs.Prelude.{ℕ, Bool, List, [], ◌∷◌}
use Rattle.laws.specs.Choice.{pick}
use Rattle.bits.specs.Cells.{Cell, cell}
use Rattle.void_extent.specs.Layout.{extent_place, extent_width}

-- bits 11..10 of a flat block, both 1; a volume has none
unfoldable pub fixed_width : Bool → ℕ
fixed_width volume = pick volume 0 2

unfoldable pub fixed_bits : Bool → ℕ
fixed_bits volume = pick volume 0 3

abbrev pub extent_cell : Bool → (ℕ → ℕ) → ℕ → Cell
extent_cell volume extent i = cell (extent_place volume i) (extent_width volume i) (extent i)

-- "Bits 8..0 = 111111100"; 02, i: "In a solid sheet it is bit 9", the HDR mark; the fixed bits, the extents, the colours
unfoldable pub void_cells : Bool → ℕ → (ℕ → ℕ) → (ℕ → ℕ) → List Cell
void_cells volume hdr extent colour =
    cell 0 9 0b111111100
    ∷ cell 9 1 hdr
    ∷ cell 10 (fixed_width volume) (fixed_bits volume)
    ∷ extent_cell volume extent 0
    ∷ extent_cell volume extent 1
    ∷ extent_cell volume extent 2
    ∷ extent_cell volume extent 3
    ∷ extent_cell volume extent 4
    ∷ extent_cell volume extent 5
    ∷ cell 64 16 (colour 0)
    ∷ cell 80 16 (colour 1)
    ∷ cell 96 16 (colour 2)
    ∷ cell 112 16 (colour 3)
    ∷ []
