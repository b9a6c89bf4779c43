-- 01, "From numbers to texels": the texel at a place, from a header and the stored numbers. No bit position stands here.
-- Assumes nothing.
use Rattle.std.specs.Prelude.{ℕ, Bool, not, List, [], ◌∷◌, eqb, get_or}
use Rattle.laws.specs.Choice.{pick, both}
use Rattle.laws.specs.Table.{tab}
use Rattle.encoding.specs.declared.Level.{Level}
use Rattle.quantization.specs.Unquantise.{unquant_endpoint, unquant_weight}
use Rattle.footprint.specs.Footprint.{width_of, height_of, depth_of, is_volume, is_small}
use Rattle.partition.specs.Select.{partition_of}
use Rattle.weight_grid.specs.Place.{scale_of, grid_place}
use Rattle.weight_grid.specs.Cell.{level}
use Rattle.weight_grid.specs.Bilinear.{infill_of}
use Rattle.volume_infill.specs.Simplex.{volume_infill}
use Rattle.color_endpoint.specs.Table.{table_of}
use Rattle.interpolation.specs.declared.Kind.{Kind}
use Rattle.interpolation.specs.declared.Texel.{Texel}
use Rattle.interpolation.specs.declared.Kind.TheVariants.{Unorm16, Srgb8, Float16}
use Rattle.interpolation.specs.Expansion.{no_pair, expanded_pair, shown_of, takes_hdr}
use Rattle.half_float.specs.Half.{unorm_half}
use Rattle.half_pair.specs.Pair.{no_half, half_table_of}
use Rattle.half_pair.specs.Texel.{half_texel}
use Rattle.interpolation.specs.Texel.{texel_of}
use Rattle.block_header.specs.declared.BlockHeader.{BlockHeader}
use Rattle.block_header.specs.Counts.{endpoint_range_of}

-- the numbers unquantised (01: widened), number i being `stored i`
unfoldable pub endpoint_levels : ℕ → (ℕ → ℕ) → List Level
unfolding tab
endpoint_levels range stored = tab (λ i. level (unquant_endpoint range (stored i))) 18

unfoldable pub weight_levels : ℕ → (ℕ → ℕ) → List Level
unfolding tab
weight_levels range stored = tab (λ i. level (unquant_weight range (stored i))) 64

-- a texel of partition p by its pair, the weights of both planes and the component that takes the second: 01's rule in kinds 0 and 1,
-- 000's half floats in kind 2
abbrev pub partition_texel : Kind → List ℕ → ℕ → List Level → ℕ → Level → Level → ℕ → Texel
partition_texel Unorm16 modes count ends p first second component = texel_of (expanded_pair Unorm16 (get_or (table_of modes count ends) p no_pair)) first second component
partition_texel Srgb8 modes count ends p first second component = texel_of (expanded_pair Srgb8 (get_or (table_of modes count ends) p no_pair)) first second component
partition_texel Float16 modes count ends p first second component = half_texel (get_or (half_table_of modes count ends) p no_half) first second component

module _ (fp : ℕ) (kind : Kind) (h : BlockHeader) (ends weights : List Level) (x y z : ℕ) where
  -- "Infill gives one weight at the place for each grid"; 02, h: in a volume simplex infill, on three axes
  unfoldable pub plane_weight : ℕ → ℕ
  plane_weight plane =
      let g = h.grid in
      let gs = grid_place (scale_of (width_of fp)) x g.width in
      let gt = grid_place (scale_of (height_of fp)) y g.height in
      let gr = grid_place (scale_of (depth_of fp)) z g.depth in
      pick (is_volume fp) (volume_infill weights g.width g.height g.depth g.planes plane gs gt gr)
      (infill_of weights g.width g.height g.planes plane gs gt)

  -- "With two planes the named channel takes the second grid's"; with one there is no second
  unfoldable pub second_weight : ℕ
  second_weight = pick (eqb h.grid.planes 2) (plane_weight 1) (plane_weight 0)

  -- "the named channel"; 4, which names none, with one plane
  unfoldable pub second_component : ℕ
  second_component = pick (eqb h.grid.planes 2) h.component 4

  -- "that partition's pair, widened for the kind and mixed by the first grid's weight", in 16 bits
  unfoldable pub mixed_texel : Texel
  mixed_texel =
      partition_texel kind h.modes h.partitions ends (partition_of h.index h.partitions (is_small fp) x y z)
      (level (plane_weight 0)) (level second_weight) second_component

-- the texel from the stored numbers
unfoldable pub texel_from : ℕ → Kind → BlockHeader → (ℕ → ℕ) → (ℕ → ℕ) → ℕ → ℕ → ℕ → Texel
unfolding mixed_texel endpoint_levels weight_levels
texel_from fp kind h endpoint weight x y z =
    mixed_texel fp kind h (endpoint_levels (endpoint_range_of h) endpoint) (weight_levels h.grid.range weight) x y z

-- channel c of a texel, R, G, B, A
unfoldable pub channel : Texel → ℕ → ℕ
channel t c = get_or (t.r ∷ t.g ∷ t.b ∷ t.a ∷ []) c 0

-- the number shown of it in a kind: 16 bits, the top byte, or a half float's 16 bits
unfoldable pub shown_channel : Kind → Texel → ℕ → ℕ
unfolding channel
shown_channel kind t c = shown_of kind (channel t c)

-- a colour of 01's solid block: 16 bits as stored, or the half float of them
unfoldable pub solid_number : Bool → ℕ → ℕ
solid_number half n = pick half (unorm_half n) n

-- 02, i: "An HDR solid block shows its four colours as stored, infinities and NaN too. What is LDR, a solid block or a channel, shows in kind 2
-- the half floats that 000 makes of it"
unfoldable pub solid_texel : Kind → Bool → (ℕ → ℕ) → Texel
solid_texel kind hdr colour =
    let half = both (takes_hdr kind) (not hdr) in
    record { r = solid_number half (colour 0); g = solid_number half (colour 1); b = solid_number half (colour 2); a = solid_number half (colour 3) }

-- "every texel is 65535, 0, 65535, 65535 (kind 0) or 255, 0, 255, 255 (kind 1)", the top bytes of the former
abbrev pub magenta : Texel
magenta = record { r = 65535; g = 0; b = 65535; a = 65535 }

-- 02, i: in kind 2 "a block with a fault gives 65535 in all four channels, where demand 1 says magenta"
unfoldable pub error_texel : Kind → Texel
error_texel kind = pick (takes_hdr kind) (record { r = 65535; g = 65535; b = 65535; a = 65535 }) magenta
