-- 002, "PVRTC1 4bpp word encoding", "image reconstruction" and "color modulation": what a word of 64 bits holds.
-- Assumes nothing.
use Rattle.std.specs.Prelude.{ℕ, ◌+◌, ◌*◌, ◌/◌, Bool, [], ◌∷◌, eqb, get_or}
use Rattle.laws.specs.Choice.{pick, both}
use Rattle.bits.specs.Field.{field}

-- "a 3-bit channel, C2C1C0 becomes C2C1C0C2C1", "a 4-bit channel, C3C2C1C0 becomes C3C2C1C0C3"
abbrev pub three_to_five : ℕ → ℕ
three_to_five v = v * 4 + v / 2

abbrev pub four_to_five : ℕ → ℕ
four_to_five v = v * 2 + v / 8

-- "The 3-bit alpha channel values are expanded to 4 bits by zero padding: A2A1A0 becomes A2A1A00"
abbrev pub alpha_to_four : ℕ → ℕ
alpha_to_four v = v * 2

-- channel c of R, G, B, A
abbrev pub channel_among : ℕ → ℕ → ℕ → ℕ → ℕ → ℕ
channel_among c r g b a = get_or (r ∷ g ∷ b ∷ a ∷ []) c 0

-- "treating each color as an ARGB:4555 format": R, G and B of five bits, A of four. "If Op is 1, then the color is treated as opaque",
-- with alpha 0b1111; Op is "the most-significant bit of the color".
-- Color B: bits 63..48
unfoldable pub colour_b : ℕ → ℕ → ℕ
colour_b W c =
    pick (eqb (field W 63 1) 1)
    (channel_among c (field W 58 5) (field W 53 5) (field W 48 5) 15)
    (channel_among c (four_to_five (field W 56 4)) (four_to_five (field W 52 4)) (four_to_five (field W 48 4)) (alpha_to_four (field W 60 3)))

-- Color A: bits 47..33
unfoldable pub colour_a : ℕ → ℕ → ℕ
colour_a W c =
    pick (eqb (field W 47 1) 1)
    (channel_among c (field W 42 5) (field W 37 5) (four_to_five (field W 33 4)) 15)
    (channel_among c (four_to_five (field W 40 4)) (four_to_five (field W 36 4)) (three_to_five (field W 33 3)) (alpha_to_four (field W 44 3)))

-- "modulation flag M", bit 32: set for "Punch-through"
unfoldable pub punch_through : ℕ → Bool
punch_through W = eqb (field W 32 1) 1

-- "Modulation data bits [1..0] for pixel offset (x, y)"
unfoldable pub modulation_at : ℕ → ℕ → ℕ → ℕ
modulation_at W x y = field W (2 * (4 * y + x)) 2

-- "Modulation weights for PVRTC1 4bpp": 0, 4, 4, 8 with punch-through, else 0, 3, 5, 8
unfoldable pub code_weight : Bool → ℕ → ℕ
code_weight punch m = get_or (pick punch (0 ∷ 4 ∷ 4 ∷ 8 ∷ []) (0 ∷ 3 ∷ 5 ∷ 8 ∷ [])) m 0

unfoldable pub modulation_weight : ℕ → ℕ → ℕ → ℕ
unfolding code_weight punch_through modulation_at
modulation_weight W x y = code_weight (punch_through W) (modulation_at W x y)

-- "If punch-through mode is selected, and the modulation bits for a given pixel have a value of 0b10, the alpha value of the resulting color is 0x00."
unfoldable pub punched : ℕ → ℕ → ℕ → Bool
unfolding punch_through modulation_at
punched W x y = both (punch_through W) (eqb (modulation_at W x y) 2)
