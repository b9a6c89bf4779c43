-- A void extent (01: solid block) of a flat footprint or a volume. 01, "Bits of a block"; 02, h; 000, "Void-Extent Blocks". B is the number of
-- its 128 bits.
-- Assumes nothing.
use Rattle.std.specs.Prelude.{ℕ, ◌+◌, ◌*◌, Bool, false, not, eqb, ltb}
use Rattle.laws.specs.Choice.{pick, either, all}
use Rattle.bits.specs.Field.{field}

-- the axes s and t, in a volume also r
unfoldable pub axes_of : Bool → ℕ
axes_of volume = pick volume 3 2

-- Extents low s, high s, low t, high t, low r, high r. Flat: "of 13 bits from bit 12", and the third pair has no bits. A volume: "its six extents
-- are 9 bits each from bit 10".
unfoldable pub extent_place : Bool → ℕ → ℕ
extent_place volume i = pick volume (10 + 9 * i) (pick (ltb i 4) (12 + 13 * i) 64)

unfoldable pub extent_width : Bool → ℕ → ℕ
extent_width volume i = pick volume 9 (pick (ltb i 4) 13 0)

-- all ones: "their limit in a sheet is 511", 8191 in a flat one
unfoldable pub extent_most : Bool → ℕ
extent_most volume = pick volume 511 8191

unfoldable pub extent_at : Bool → ℕ → ℕ → ℕ
extent_at volume B i = field B (extent_place volume i) (extent_width volume i)

-- "colours of 16 bits from bit 64"
unfoldable pub colour_at : ℕ → ℕ → ℕ
colour_at B i = field B (64 + 16 * i) 16

-- "extents neither all ones nor low < high on both axes"; 02, h: "For volumes faults 12 (its extents part) and 14 speak of three axes"
unfoldable pub bad_extents : Bool → (ℕ → ℕ) → Bool
bad_extents volume e =
    not (either (all (λ i. eqb (e i) (extent_most volume)) (2 * axes_of volume)) (all (λ a. ltb (e (2 * a)) (e (2 * a + 1))) (axes_of volume)))

-- "bits 11..10 not both 1"; 02, h: "A volume's solid block has no fixed bits 11..10"
unfoldable pub bad_fixed : Bool → ℕ → Bool
bad_fixed volume B = pick volume false (not (eqb (field B 10 2) 3))

-- 12: those bits, or the extents
unfoldable pub bad_void_extent : Bool → ℕ → Bool
unfolding bad_fixed bad_extents extent_at
bad_void_extent volume B = either (bad_fixed volume B) (bad_extents volume (extent_at volume B))

-- 13: "solid block with bit 9 set (HDR)"
unfoldable pub hdr_void_extent : ℕ → Bool
hdr_void_extent B = eqb (field B 9 1) 1
