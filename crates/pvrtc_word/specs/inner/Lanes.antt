-- Four channels in one number: what the code carries between unpacking a word and making a texel.
-- Assumes nothing.
use Rattle.std.specs.Prelude.{ℕ, ◌+◌, ◌*◌, Bool, eqb}
use Rattle.laws.specs.Choice.{pick, both}
use Rattle.bits.specs.Field.{field}
use Rattle.pvrtc_texel.specs.Texel.{unorm8, modulated}
use Rattle.pvrtc_word.specs.declared.Rgba.{Rgba}

-- R, G, B and A, sixteen bits for each
abbrev pub lanes_of : ℕ → ℕ → ℕ → ℕ → ℕ
lanes_of r g b a = r + g * 65536 + b * 4294967296 + a * 281474976710656

unfoldable pub lanes : (ℕ → ℕ) → ℕ
lanes f = lanes_of (f 0) (f 1) (f 2) (f 3)

-- channel c of such a number
unfoldable pub lane : ℕ → ℕ → ℕ
unfolding field
lane v c = field v (16 * c) 16

-- channel c of a texel, from the interpolated samples of both colours, the weight and whether it is punched
unfoldable pub byte_of : ℕ → ℕ → ℕ → Bool → ℕ → ℕ
unfolding lane unorm8 modulated
byte_of a b weight clear c = pick (both clear (eqb c 3)) 0 (modulated weight (unorm8 c (lane a c)) (unorm8 c (lane b c)))

abbrev pub rgba_of : (ℕ → ℕ) → Rgba
rgba_of f = record { r = f 0; g = f 1; b = f 2; a = f 3 }
