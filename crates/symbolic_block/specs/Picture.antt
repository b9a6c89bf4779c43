-- 01, "The picture of a sheet": "reckoned from an acceptable sheet's fields, a footprint, a kind and a place in the block, by the rules of the
-- section above and the counts, ranges and tables under "Packed numbers", and never from a block". A sheet is a symbolic block.
-- Assumes nothing.
use Rattle.std.specs.Prelude.{ℕ, zero, suc, ◌+◌, ◌-◌, ◌*◌, ◌/◌, ◌%◌, List, [], ◌∷◌, eqb, ltb, get_or}
use Rattle.laws.specs.Choice.{pick, both}
use Rattle.laws.specs.Table.{tab}
use Rattle.encoding.specs.declared.Level.{Level}
use Rattle.quantization.specs.Ranges.{range_bits, endpoint_range}
use Rattle.quantization.specs.Unquantise.{unquant_endpoint, unquant_weight}
use Rattle.footprint.specs.Footprint.{width_of, height_of, depth_of, is_volume, is_small}
use Rattle.partition.specs.Select.{partition_of}
use Rattle.weight_grid.specs.Place.{scale_of, grid_place}
use Rattle.weight_grid.specs.Bilinear.{blend_of}
use Rattle.volume_infill.specs.Simplex.{simplex_of}
use Rattle.color_endpoint.specs.Modes.{pair_of}
use Rattle.interpolation.specs.declared.Kind.{Kind}
use Rattle.interpolation.specs.declared.Texel.{Texel}
use Rattle.interpolation.specs.declared.Kind.TheVariants.{Unorm16, Srgb8, Float16}
use Rattle.interpolation.specs.Expansion.{expand_of, shown_of, takes_hdr}
use Rattle.half_float.specs.Half.{half_of}
use Rattle.half_pair.specs.Pair.{half_pair_of}
use Rattle.half_pair.specs.Texel.{hdr_at, solid_half}
use Rattle.interpolation.specs.Texel.{mix_of}
use Rattle.symbolic_block.specs.declared.SymbolicBlock.{SymbolicBlock}
use Rattle.symbolic_block.specs.Fields.{is_marked, colour_in, mode_in, endpoint_in, weight_in}

-- "Solid: each texel is the four colours". 02, i: in kind 2 "as stored, infinities and NaN too", where the HDR mark is set, else "the half
-- floats that 000 makes of" them
unfoldable pub solid_channel : Kind → SymbolicBlock → ℕ → ℕ
solid_channel kind s c = pick (takes_hdr kind) (solid_half (is_marked s) (colour_in s) c) (colour_in s c)

unfoldable pub solid_picture : Kind → SymbolicBlock → Texel
unfolding solid_channel
solid_picture kind s = record { r = solid_channel kind s 0; g = solid_channel kind s 1; b = solid_channel kind s 2; a = solid_channel kind s 3 }

-- "the partition's mode makes its numbers a pair of colours": channel c of that pair, mixed by a weight, in kinds 0 and 1 "widened for the kind and
-- mixed", in kind 2 the half float of what is mixed
abbrev pub pair_channel : Kind → ℕ → List Level → ℕ → ℕ → ℕ
pair_channel Unorm16 mode v c w = mix_of (expand_of Unorm16 (get_or (pair_of mode v).e0 c 0)) (expand_of Unorm16 (get_or (pair_of mode v).e1 c 0)) w
pair_channel Srgb8 mode v c w = mix_of (expand_of Srgb8 (get_or (pair_of mode v).e0 c 0)) (expand_of Srgb8 (get_or (pair_of mode v).e1 c 0)) w
pair_channel Float16 mode v c w = half_of (hdr_at (half_pair_of mode v) c) (mix_of (get_or (half_pair_of mode v).c0 c 0) (get_or (half_pair_of mode v).c1 c 0) w)

module _ (s : SymbolicBlock) where
  -- ---- "Weights"

  -- "each widens by its range": weight number i
  unfoldable pub widened_weight : ℕ → ℕ
  widened_weight i = unquant_weight s.range (weight_in s i)

  -- A grid is its weights in raster order. "One plane: they fill the grid in raster order. Two: numbers 0, 2, 4 and so on fill the first grid"
  unfoldable pub first_grid : ℕ → ℕ
  first_grid i = widened_weight (pick (eqb s.planes 2) (2 * i) i)

  -- "the others the second"
  unfoldable pub second_grid : ℕ → ℕ
  second_grid i = widened_weight (2 * i + 1)

  -- the weight in a column, a row and a layer, of which a flat grid has one: "the neighbour right of the last column or below the last row counts
  -- 0", in a volume the one behind the last layer too
  unfoldable pub point_weight : (ℕ → ℕ) → ℕ → ℕ → ℕ → ℕ
  point_weight grid column row layer =
      pick (both (ltb column s.width) (both (ltb row s.height) (ltb layer s.depth))) (grid ((layer * s.height + row) * s.width + column)) 0

  -- 000, "Weight Infill": at gs, gt, in sixteenths of a step, the four neighbours by the two fractions
  unfoldable pub infill_weight : (ℕ → ℕ) → ℕ → ℕ → ℕ
  infill_weight grid gs gt =
      let column = gs / 16 in
      let row = gt / 16 in
      blend_of (gs % 16) (gt % 16)
      (point_weight grid column row 0) (point_weight grid (column + 1) row 0) (point_weight grid column (row + 1) 0) (point_weight grid (column + 1) (row + 1) 0)

  -- 000: "For 3D, simplex interpolation is used", at gs, gt, gr
  unfoldable pub simplex_weight : (ℕ → ℕ) → ℕ → ℕ → ℕ → ℕ
  simplex_weight grid gs gt gr =
      simplex_of (gs % 16) (gt % 16) (gr % 16) (λ i j k. point_weight grid (gs / 16 + i) (gt / 16 + j) (gr / 16 + k))

  -- "Infill gives one weight at the place for each grid."
  unfoldable pub place_weight : ℕ → (ℕ → ℕ) → ℕ → ℕ → ℕ → ℕ
  place_weight fp grid x y z =
      let gs = grid_place (scale_of (width_of fp)) x s.width in
      let gt = grid_place (scale_of (height_of fp)) y s.height in
      let gr = grid_place (scale_of (depth_of fp)) z s.depth in
      pick (is_volume fp) (simplex_weight grid gs gt gr) (infill_weight grid gs gt)

  -- ---- "Endpoints"

  -- "2(class+1) numbers", the class being "mode/4, rounded down": as many as partition p takes
  unfoldable pub numbers_of : ℕ → ℕ
  numbers_of p = 2 * (mode_in s p / 4 + 1)

  -- "partition 0 takes the first 2(class+1) numbers, each next partition those that follow": as many as the first p partitions take
  unfoldable pub numbers_of_first : ℕ → ℕ
  numbers_of_first zero = 0
  numbers_of_first (suc p) = numbers_of_first p + numbers_of p

  -- "The bits left for them are 111, or 99 with several partitions, less the weight bits, less 2 with two planes, less 3P-4 with selector
  -- 1 to 3." "Bits left may come out negative; then they count as 0": the difference of ℕ does so.
  unfoldable pub bits_left_over : ℕ
  bits_left_over =
      pick (eqb s.partitions 1) 111 99
      - range_bits s.range (s.width * s.height * s.depth * s.planes)
      - pick (eqb s.planes 2) 2 0
      - pick (eqb s.selector 0) 0 (3 * s.partitions - 4)

  -- "They give the range"
  unfoldable pub range_of_endpoints : ℕ
  range_of_endpoints = endpoint_range (numbers_of_first s.partitions) bits_left_over

  -- "it widens each number": those of partition p
  unfoldable pub widened_numbers : ℕ → List Level
  widened_numbers p = tab (λ k. record { 0 = unquant_endpoint range_of_endpoints (endpoint_in s (numbers_of_first p + k)) }) (numbers_of p)

  -- ---- "Partition"

  -- "the hash of index, count, place and footprint; with one partition it is 0"
  unfoldable pub partition_at : ℕ → ℕ → ℕ → ℕ → ℕ
  partition_at fp x y z = partition_of s.index s.partitions (is_small fp) x y z

  -- ---- "Texel"

  -- "mixed by the first grid's weight. With two planes the named channel takes the second grid's": the grid that channel c takes
  unfoldable pub channel_grid : ℕ → ℕ → ℕ
  channel_grid c = pick (both (eqb s.planes 2) (eqb c s.component)) second_grid first_grid

  -- "that partition's pair, widened for the kind and mixed": channel c, in 16 bits
  unfoldable pub channel_at : ℕ → Kind → ℕ → ℕ → ℕ → ℕ → ℕ
  channel_at fp kind x y z c =
      pair_channel kind (mode_in s (partition_at fp x y z)) (widened_numbers (partition_at fp x y z)) c (place_weight fp (channel_grid c) x y z)

  unfoldable pub mixed_picture : ℕ → Kind → ℕ → ℕ → ℕ → Texel
  mixed_picture fp kind x y z =
      record { r = channel_at fp kind x y z 0; g = channel_at fp kind x y z 1; b = channel_at fp kind x y z 2; a = channel_at fp kind x y z 3 }

-- the texel at x, y, z, in 16 bits; z is 0 in a flat block
unfoldable pub picture_of : ℕ → Kind → SymbolicBlock → ℕ → ℕ → ℕ → Texel
picture_of fp kind s x y z = pick (eqb s.mark 1) (solid_picture kind s) (mixed_picture s fp kind x y z)

-- the number shown of its channel c, of R, G, B, A: "in kind 1 their top bytes", "kind 1 keeps the top byte"
unfoldable pub picture_number : ℕ → Kind → SymbolicBlock → ℕ → ℕ → ℕ → ℕ → ℕ
picture_number fp kind s x y z c =
    let t = picture_of fp kind s x y z in
    shown_of kind (get_or (t.r ∷ t.g ∷ t.b ∷ t.a ∷ []) c 0)
