-- What a sheet with these settings shows in kind 1: each texel the grey of its own weight.
-- Assumes nothing.
use mathlib.Core.Path.{◌≡◌, refl, sym, ap, ap₂, ◌∙◌}
use mathlib.Core.List.{List, [], ◌∷◌}
use Prim.Native.Nat.{ℕ, zero, suc, ◌+◌, ◌-◌, ◌*◌, ◌/◌, ◌%◌, ◌≤◌, ◌<◌}
use native.Mathlib.Nat.{mul-add}
use native.Mathlib.Omega.{arith}
use lib.ListN.{get_or}
use borrow.Author.Tests.{lt-ltb}
use Rattle.laws.specs.Table.{tab}
use Rattle.encoding.specs.Encoding.{sequence_bits}
use Rattle.quantization.specs.Ranges.{encoding_at, bits_at, most_at, range_bits, largest_to, endpoint_range}
use Rattle.quantization.specs.Unquantise.{endpoint_level, unquant_endpoint, unquant_weight}
use Rattle.quantization.proofs.Ranges.{same_below}
use Rattle.quantization.proofs.Levels.{weight_le}
use Rattle.footprint.specs.Footprint.{footprints, width_of, height_of, is_volume}
use Rattle.partition.specs.Select.{partition_of}
use Rattle.weight_grid.specs.Place.{scale_of, grid_place}
use Rattle.weight_grid.specs.Bilinear.{w00, w01, w10, w11, blend_of}
use Rattle.endpoint_arithmetic.specs.declared.EndpointPair.{EndpointPair}
use Rattle.endpoint_arithmetic.specs.Pair.{luminance_pair}
use Rattle.color_endpoint.specs.Modes.{mode0, pair_of}
use Rattle.interpolation.specs.declared.Kind.TheVariants.{Srgb8}
use Rattle.interpolation.specs.declared.Texel.{Texel}
use Rattle.interpolation.specs.Expansion.{replicated, centred, expand_of, shown_of}
use Rattle.interpolation.specs.Texel.{mix_of}
use Rattle.symbolic_block.specs.declared.SymbolicBlock.{SymbolicBlock}
use Rattle.symbolic_block.specs.Fields.{mode_in, weight_in}
use Rattle.symbolic_block.specs.Reading.{mode_block}
use Rattle.symbolic_block.specs.Picture.{widened_weight, first_grid, point_weight, infill_weight, place_weight, numbers_of, numbers_of_first, bits_left_over, range_of_endpoints, widened_numbers, pair_channel, partition_at, channel_grid, channel_at, mixed_picture, picture_number}
use Rattle.symbolic_block.proofs.Opened.{picture_mode}
use Rattle.grey_caption.specs.Caption.{footprint, settings, sheet_with, grey_of}
use Rattle.grey_caption.proofs.Sheets.{not_void, weight_at_lem}

-- a stored number of range 0..255 is its own level
levels : tab (unquant_endpoint 20) 256 ≡ tab (λ v. v) 256
unfolding tab unquant_endpoint endpoint_level most_at encoding_at bits_at
levels = refl

pub level_is : (v : ℕ) → v ≤ 255 → unquant_endpoint 20 v ≡ v
level_is v h = same_below (unquant_endpoint 20) (λ v. v) 256 0 levels v (omega arith)

-- the grid is the footprint: each texel stands on a point
place_is : (i : ℕ) → i < 4 → grid_place (scale_of 4) i 4 ≡ 16 * i
unfolding grid_place scale_of
place_is i h = omega arith

blend_own : (a b c d : ℕ) → blend_of 0 0 a b c d ≡ a
unfolding blend_of w00 w01 w10 w11
blend_own a b c d = omega arith

-- equal ends are shown at every weight
pub mix_same : (a i : ℕ) → i ≤ 64 → mix_of a a i ≡ a
unfolding mix_of
mix_same a i h =
    let e : a * (64 - i) + a * i ≡ a * 64 = sym (mul-add a (64 - i) i) ∙ ap (λ (n : ℕ). a * n) (omega arith) in
    omega (arith, e)

-- how kind 1 widens a colour
pub expanded : (e : ℕ) → expand_of Srgb8 e ≡ 256 * e + 128
unfolding centred
expanded e = refl

-- an alpha of 255 shows as 255
opaque : shown_of Srgb8 (expand_of Srgb8 255) ≡ 255
unfolding replicated centred
opaque = refl

module _ (e0 e1 : ℕ) (w : ℕ → ℕ) where
  abbrev s : SymbolicBlock
  s = sheet_with e0 e1 w

  point_is : (g : ℕ → ℕ) (x y : ℕ) → x < 4 → y < 4 → point_weight s g x y 0 ≡ g (y * 4 + x)
  unfolding point_weight sheet_with mode_block settings
  point_is g x y hx hy = let e : (0 * 4 + y) * 4 + x ≡ y * 4 + x = omega arith in rw (lt-ltb x 4 hx, lt-ltb y 4 hy) (ap g e)

  infill_own : (g : ℕ → ℕ) (x y : ℕ) → x < 4 → y < 4 → infill_weight s g (16 * x) (16 * y) ≡ g (y * 4 + x)
  unfolding infill_weight
  infill_own g x y hx hy =
      let a : 16 * x / 16 ≡ x = omega arith in
      let b : 16 * x % 16 ≡ 0 = omega arith in
      let c : 16 * y / 16 ≡ y = omega arith in
      let d : 16 * y % 16 ≡ 0 = omega arith in
      rw (a, b, c, d) (blend_own _ _ _ _ ∙ point_is g x y hx hy)

  weight_is : (x y c : ℕ) → x < 4 → y < 4 → place_weight s footprint (channel_grid s c) x y 0 ≡ unquant_weight 2 (w (4 * y + x))
  unfolding place_weight channel_grid first_grid widened_weight sheet_with mode_block settings width_of height_of footprints is_volume
  weight_is x y c hx hy =
      ap₂ (infill_weight s (first_grid s)) (place_is x hx) (place_is y hy)
      ∙ infill_own (first_grid s) x y hx hy
      ∙ ap (λ (n : ℕ). unquant_weight 2 (weight_in s n)) (omega arith)
      ∙ ap (unquant_weight 2) (weight_at_lem e0 e1 w (4 * y + x) (omega arith))

  module _ (h0 : e0 ≤ 255) (h1 : e1 ≤ 255) where
    pair_is : (x y : ℕ) → pair_of (mode_in s (partition_at s footprint x y 0)) (widened_numbers s (partition_at s footprint x y 0)) ≡ luminance_pair e0 e1 255 255
    unfolding partition_at partition_of widened_numbers numbers_of numbers_of_first range_of_endpoints bits_left_over range_bits encoding_at bits_at sequence_bits endpoint_range largest_to pair_of mode0 tab sheet_with mode_block settings
    pair_is x y = ap₂ (λ (a b : ℕ). luminance_pair a b 255 255) (level_is e0 h0) (level_is e1 h1)

    channel_is : (x y c : ℕ) → x < 4 → y < 4
        → channel_at s footprint Srgb8 x y 0 c
        ≡ mix_of (expand_of Srgb8 (get_or (e0 ∷ e0 ∷ e0 ∷ 255 ∷ []) c 0)) (expand_of Srgb8 (get_or (e1 ∷ e1 ∷ e1 ∷ 255 ∷ []) c 0)) (unquant_weight 2 (w (4 * y + x)))
    unfolding channel_at luminance_pair
    channel_is x y c hx hy =
        ap (λ (p : EndpointPair). mix_of (expand_of Srgb8 (get_or p.e0 c 0)) (expand_of Srgb8 (get_or p.e1 c 0)) (place_weight s footprint (channel_grid s c) x y 0)) (pair_is x y)
        ∙ ap (mix_of (expand_of Srgb8 (get_or (e0 ∷ e0 ∷ e0 ∷ 255 ∷ []) c 0)) (expand_of Srgb8 (get_or (e1 ∷ e1 ∷ e1 ∷ 255 ∷ []) c 0))) (weight_is x y c hx hy)

    -- what is shown of a texel
    abbrev texel_at : ℕ → ℕ → ℕ → ℕ
    texel_at x y c = shown_of Srgb8 (channel_at s footprint Srgb8 x y 0 c)

    colour_is : (x y c : ℕ) → c < 3 → x < 4 → y < 4 → texel_at x y c ≡ grey_of e0 e1 (w (4 * y + x))
    unfolding grey_of
    colour_is x y zero h hx hy = ap (shown_of Srgb8) (channel_is x y 0 hx hy)
    colour_is x y (suc zero) h hx hy = ap (shown_of Srgb8) (channel_is x y 1 hx hy)
    colour_is x y (suc (suc zero)) h hx hy = ap (shown_of Srgb8) (channel_is x y 2 hx hy)
    colour_is x y (suc (suc (suc c))) h hx hy = absurd (omega arith)

    alpha_is : (x y : ℕ) → x < 4 → y < 4 → texel_at x y 3 ≡ 255
    alpha_is x y hx hy =
        ap (shown_of Srgb8) (channel_is x y 3 hx hy ∙ mix_same (expand_of Srgb8 255) (unquant_weight 2 (w (4 * y + x))) (weight_le 2 _)) ∙ opaque

    abbrev greys : ℕ → List ℕ
    greys i = grey_of e0 e1 (w i) ∷ grey_of e0 e1 (w i) ∷ grey_of e0 e1 (w i) ∷ 255 ∷ []

    pub number_is : (x y c : ℕ) → x < 4 → y < 4 → c < 4 → picture_number footprint Srgb8 s x y 0 c ≡ get_or (greys (4 * y + x)) c 0
    unfolding picture_number mixed_picture
    number_is x y c hx hy hc =
        ap (λ (t : Texel). shown_of Srgb8 (get_or (t.r ∷ t.g ∷ t.b ∷ t.a ∷ []) c 0)) (picture_mode s (not_void e0 e1 w) footprint Srgb8 x y 0)
        ∙ go c hc
      where
        go : (c : ℕ) → c < 4 → shown_of Srgb8 (get_or (channel_at s footprint Srgb8 x y 0 0 ∷ channel_at s footprint Srgb8 x y 0 1 ∷ channel_at s footprint Srgb8 x y 0 2 ∷ channel_at s footprint Srgb8 x y 0 3 ∷ []) c 0) ≡ get_or (greys (4 * y + x)) c 0
        go zero h = colour_is x y 0 (omega arith) hx hy
        go (suc zero) h = colour_is x y 1 (omega arith) hx hy
        go (suc (suc zero)) h = colour_is x y 2 (omega arith) hx hy
        go (suc (suc (suc zero))) h = alpha_is x y hx hy
        go (suc (suc (suc (suc c)))) h = absurd (omega arith)
