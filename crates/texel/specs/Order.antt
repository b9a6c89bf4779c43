-- Where the numbers of a block stand in the list that a one-block call writes, and the error colours in numbers. Theorem: proofs/Places.antt,
-- `block_order`.
-- Assumes nothing.
use Rattle.std.specs.Prelude.{◌≡◌, [], ◌∷◌, ℕ, ◌+◌, ◌*◌, ◌<◌, length, get_or}
use Rattle.laws.specs.Table.{tab}
use Rattle.footprint.specs.Footprint.{width_of, height_of, depth_of, texels_of}
use Rattle.interpolation.specs.declared.Kind.{Kind}
use Rattle.interpolation.specs.declared.Kind.TheVariants.{Unorm16, Srgb8, Float16}
use Rattle.texel.specs.Meaning.{error_texel, shown_channel}
use Rattle.texel.specs.BlockTexel.{block_number_at, block_numbers}

pub record BlockOrder : Type 0 where
  -- 01: "four 16-bit numbers per texel", "four bytes"
  pub size : (fp : ℕ) (kind : Kind) (B : ℕ) → length (block_numbers fp kind B) ≡ 4 * texels_of fp
  -- 01: "Channels are R, G, B, A, rows first"; 02, h: "x fastest, then y, then z"
  pub number_at : (fp : ℕ) (kind : Kind) (B x y z c : ℕ) → x < width_of fp → y < height_of fp → z < depth_of fp → c < 4
      → get_or (block_numbers fp kind B) (4 * ((z * height_of fp + y) * width_of fp + x) + c) 0 ≡ block_number_at fp kind B x y z c
  -- 01: "every texel is 65535, 0, 65535, 65535 (kind 0) or 255, 0, 255, 255 (kind 1)"
  pub magenta_words : tab (shown_channel Unorm16 (error_texel Unorm16)) 4 ≡ 65535 ∷ 0 ∷ 65535 ∷ 65535 ∷ []
  pub magenta_bytes : tab (shown_channel Srgb8 (error_texel Srgb8)) 4 ≡ 255 ∷ 0 ∷ 255 ∷ 255 ∷ []
  -- 02, i: "a block with a fault gives 65535 in all four channels"
  pub error_halves : tab (shown_channel Float16 (error_texel Float16)) 4 ≡ 65535 ∷ 65535 ∷ 65535 ∷ 65535 ∷ []
