-- 004, 13.1: the texels, from the mode and the fields in the block's order; of a sheet by its own fields, of a block by those that lie in it.
-- Assumes nothing.
use Rattle.std.specs.Prelude.{ℕ, ◌+◌, ◌-◌, ◌*◌, ◌/◌, ◌^◌, Bool, List, [], ◌∷◌, eqb, ltb, get_or}
use Rattle.laws.specs.Choice.{pick, both, either}
use Rattle.bc7_layout.specs.Modes.{subsets, selection_bits, colour_bits, alpha_bits, endpoint_pbits, shared_pbits, index_bits, secondary_bits}
use Rattle.bc7_layout.specs.Partitions.{subset_of}
use Rattle.bc7_layout.specs.Layout.{mode_at, is_reserved, field_at}
use Rattle.bc7_block.specs.declared.Bc7Block.{Bc7Block}
use Rattle.bc7_block.specs.Fields.{value_in}

-- Table 13.1
abbrev pub two_bit_factors : List ℕ
two_bit_factors = 0 ∷ 21 ∷ 43 ∷ 64 ∷ []

abbrev pub three_bit_factors : List ℕ
three_bit_factors = 0 ∷ 9 ∷ 18 ∷ 27 ∷ 37 ∷ 46 ∷ 55 ∷ 64 ∷ []

abbrev pub four_bit_factors : List ℕ
four_bit_factors = 0 ∷ 4 ∷ 9 ∷ 13 ∷ 17 ∷ 21 ∷ 26 ∷ 30 ∷ 34 ∷ 38 ∷ 43 ∷ 47 ∷ 51 ∷ 55 ∷ 60 ∷ 64 ∷ []

-- the factor of an index of so many bits
unfoldable pub factor_of : ℕ → ℕ → ℕ
factor_of bits i = get_or (pick (eqb bits 2) two_bit_factors (pick (eqb bits 3) three_bit_factors four_bit_factors)) i 0

-- "For final scaling, the top bits of the value are replicated into any remaining bits in the byte.": a number of w bits, 4 to 8, as a byte
unfoldable pub as_byte : ℕ → ℕ → ℕ
as_byte w v = v * 2 ^ (8 - w) + v / 2 ^ (2 * w - 8)

-- 004 gives the factors in 64ths and no formula; 01's rule for texels
unfoldable pub mixed : ℕ → ℕ → ℕ → ℕ
mixed f a b = (a * (64 - f) + b * f + 32) / 64

-- Table 13.2: which channel of the mixed colour comes out as channel c: "swap(a,r)", "swap(a,g)", "swap(a,b)"
unfoldable pub rotated : ℕ → ℕ → ℕ
rotated r c = pick (eqb r 0) c (pick (eqb c 3) (r - 1) (pick (eqb c (r - 1)) 3 c))

-- ---- a block of mode m with field k given by v

module _ (m : ℕ) (v : ℕ → ℕ) where
  -- channel c of end e of subset j as stored
  unfoldable pub stored_end : ℕ → ℕ → ℕ → ℕ
  unfolding subsets
  stored_end j e c = v (4 + (c * (2 * subsets m) + 2 * j + e))

  -- its P bit: "If the format has a per-endpoint P-bits, then there are 2 x subsets P-bits stored in the same order as color and alpha"; of shared
  -- ones there is one for each subset (004 speaks of "two bits for endpoints 0 and 1"; decoders take them so, and the table's two bits of mode 1
  -- are its two subsets)
  unfoldable pub p_bit_of : ℕ → ℕ → ℕ
  unfolding endpoint_pbits
  p_bit_of j e = v (22 + pick (eqb (endpoint_pbits m) 1) (2 * j + e) j)

  -- whether there is one
  unfoldable pub has_pbit : Bool
  unfolding endpoint_pbits shared_pbits
  has_pbit = either (eqb (endpoint_pbits m) 1) (eqb (shared_pbits m) 1)

  -- "Both kinds of P-bits are added as a bit below the color data stored in the byte."
  unfoldable pub widened_end : ℕ → ℕ → ℕ → ℕ → ℕ
  unfolding stored_end p_bit_of has_pbit as_byte
  widened_end w j e c = pick has_pbit (as_byte (w + 1) (stored_end j e c * 2 + p_bit_of j e)) (as_byte w (stored_end j e c))

  -- a channel of an end as a byte: "If a block has non-zero alpha bits, the alpha data follows the color data with the same organization. If not,
  -- alpha is overridden to 1.0."
  unfoldable pub end_channel : ℕ → ℕ → ℕ → ℕ
  unfolding widened_end colour_bits alpha_bits
  end_channel j e c = pick (eqb c 3) (pick (eqb (alpha_bits m) 0) 255 (widened_end (alpha_bits m) j e c)) (widened_end (colour_bits m) j e c)

  -- the factors of texel i by its primary and by its secondary index
  unfoldable pub primary_factor : ℕ → ℕ
  unfolding factor_of index_bits
  primary_factor i = factor_of (index_bits m) (v (28 + i))

  unfoldable pub secondary_factor : ℕ → ℕ
  unfolding factor_of secondary_bits
  secondary_factor i = factor_of (secondary_bits m) (v (44 + i))

  -- "The index value for interpolating color comes from the secondary index for the texel if the format has an index selection bit and its value is
  -- one and from the primary index otherwise."
  unfoldable pub colour_factor : ℕ → ℕ
  unfolding selection_bits primary_factor secondary_factor
  colour_factor i = pick (both (eqb (selection_bits m) 1) (eqb (v 3) 1)) (secondary_factor i) (primary_factor i)

  -- "The alpha index comes from the secondary index if the block has a secondary index and the block either doesn't have an index selection bit or
  -- that bit is zero and the primary index otherwise."
  unfoldable pub alpha_factor : ℕ → ℕ
  unfolding selection_bits secondary_bits primary_factor secondary_factor
  alpha_factor i =
      pick (both (ltb 0 (secondary_bits m)) (either (eqb (selection_bits m) 0) (eqb (v 3) 0))) (secondary_factor i) (primary_factor i)

  -- channel c of texel i before rotation
  unfoldable pub mixed_at : ℕ → ℕ → ℕ
  unfolding subsets subset_of end_channel colour_factor alpha_factor mixed
  mixed_at i c =
      let j = subset_of (subsets m) (v 1) i in
      mixed (pick (eqb c 3) (alpha_factor i) (colour_factor i)) (end_channel j 0 c) (end_channel j 1 c)

  -- "If rotation bits are present, this color is remapped according to Table 13.2."
  unfoldable pub texel_of : ℕ → ℕ → ℕ
  unfolding mixed_at rotated
  texel_of i c = mixed_at i (rotated (v 2) c)

-- channel c of texel i, in raster order, of a sheet: reckoned from its fields
unfoldable pub picture_of : Bc7Block → ℕ → ℕ → ℕ
unfolding texel_of value_in
picture_of s i c = texel_of s.mode (value_in s) i c

-- of a block: "A first byte of 0 gives 0, 0, 0, 0 for all sixteen texels"
unfoldable pub block_texel : ℕ → ℕ → ℕ → ℕ
unfolding texel_of mode_at is_reserved field_at
block_texel B i c = pick (is_reserved B) 0 (texel_of (mode_at B) (field_at B) i c)
