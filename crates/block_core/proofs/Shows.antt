-- From what was painted to what the block shows.
-- Assumes nothing.
use mathlib.Core.Path.{◌≡◌, refl, sym, ap, ◌∙◌, subst}
use mathlib.Core.Bool.{Bool, true, false}
use mathlib.Core.List.{List, []}
use Prim.Native.Nat.{ℕ, ◌+◌, ◌-◌, ◌*◌, ◌/◌, ◌%◌, ◌≤◌, ◌<◌}
use native.Mathlib.Nat.{mul_assoc, mul_comm, mul-one, one-mul, mod-lt, mod-eq_of_lt, div-eq_of_lt, div-lt_iff_lt-mul}
use native.Mathlib.Omega.{arith}
use lib.Dec.{eqb, ltb}
use lib.ListN.{length, get_or}
use borrow.Author.Tests.{eq-eqb, ne_eqb, eqb-true, ltb-false}
use Rattle.laws.specs.Choice.{pick}
use Rattle.laws.specs.Table.{tab, padded, replaced, by_rows}
use Rattle.laws.proofs.Filling.{length_tab, get_or_tab, tab_all, replaced_here, replaced_ext}
use Rattle.encoding.specs.declared.Level.{Level}
use Rattle.quantization.specs.Unquantise.{unquant_endpoint, unquant_weight}
use Rattle.quantization.proofs.Levels.{endpoint_le, weight_le}
use Rattle.footprint.specs.Footprint.{width_of, height_of, depth_of, texels_of, is_volume, is_small}
use Rattle.footprint.proofs.Laws.{texels_le, flat_depth}
use Rattle.weight_grid.specs.Place.{scale_of, grid_place}
use Rattle.weight_grid.specs.Cell as cell
use Rattle.weight_grid.specs.Cell.{level}
use Rattle.encoding.specs.declared.LevelPair.{LevelPair}
use Rattle.encoding.specs.inner.Levels.{first_level, second_level, level_pair}
use Rattle.encoding.specs.inner.Levels as pairs
use Rattle.weight_grid.specs.Bilinear.{infill_of}
use Rattle.weight_grid.specs.inner.Points.{no_point, read_of, point_of, points_of}
use Rattle.weight_grid.proofs.Reading.{first_read, second_read, first_le, second_most}
use Rattle.volume_infill.specs.Simplex.{volume_infill}
use Rattle.volume_infill.specs.inner.Way.{WithinGrid, ByteLevels}
use Rattle.weight_grid.specs.inner.Pairs.{OnePlane}
use Rattle.volume_infill.proofs.Reading.{first_volume, second_volume, first_volume_le, second_volume_le}
use Rattle.volume_paint.specs.declared.VolumeFrame.{VolumeFrame}
use Rattle.volume_paint.specs.inner.Volume.{volume_texel_at, volume_texel}
use Rattle.volume_paint.proofs.Painting.{on_grid}
use Rattle.block_mode.specs.Back2D.{Limits}
use Rattle.partition.specs.declared.Seeds.{Seeds}
use Rattle.partition.specs.Select.{partition_of}
use Rattle.partition.specs.inner.Seeds.{select_by, seeds_of}
use Rattle.partition.proofs.Agree.{agrees}
use Rattle.partition.proofs.Rows.{row_is}
use Rattle.partition.proofs.Bounds.{partition_lt_4}
use Rattle.color_endpoint.specs.Modes as modes
use Rattle.color_endpoint.specs.Table.{table_of}
use Rattle.color_endpoint.proofs.Pairs.{Bytes, table_bytes}
use Rattle.interpolation.specs.declared.Kind.{Kind}
use Rattle.interpolation.specs.declared.Texel.{Texel}
use Rattle.interpolation.specs.declared.Kind.TheVariants.{Unorm16, Srgb8, Float16}
use Rattle.interpolation.specs.Expansion.{no_pair, expanded_pair, takes_hdr}
use Rattle.interpolation.specs.Texel.{weight_of, channel_of, texel_of}
use Rattle.interpolation.specs.inner.Line.{line_of, line_texel}
use Rattle.half_pair.specs.Pair.{no_half, half_table_of}
use Rattle.half_pair.specs.Texel.{half_channel, half_texel}
use Rattle.half_line.specs.inner.Line.{half_line_of, half_texel_on, texel_on}
use Rattle.half_line.proofs.Line.{half_line_lem}
use Rattle.block_levels.specs.inner.Lines.{lines_by, lines_in}
use Rattle.interpolation.proofs.Lines.{line_texel_lem}
use Rattle.block_header.specs.declared.BlockHeader.{BlockHeader}
use Rattle.block_header.specs.Counts.{weight_count, endpoint_range_of}
use Rattle.block_mode.specs.declared.BlockMode.{BlockMode}
use Rattle.block_mode.specs.declared.BlockMode.TheVariants.{VoidExtent, Reserved, Grid}
use Rattle.volume_mode.specs.Either.{block_mode_in, is_deep}
use Rattle.volume_mode.proofs.Modes.{mode_deep}
use Rattle.bits.specs.Field.{field}
use Rattle.bits.proofs.Fields.{field_lt}
use Rattle.void_extent.specs.Layout.{colour_at, hdr_void_extent}
use Rattle.block_fault.specs.Bits.{mode_at, is_void, grid_in, header_with, header_at, endpoint_at, weight_at}
use Rattle.block_fault.specs.Faults.{fault_of}
use Rattle.block_fault.proofs.Stages.{reserved_fault}
use Rattle.block_fault.proofs.Sound.{coded_limits}
use Rattle.texel.specs.Meaning.{endpoint_levels, weight_levels, plane_weight, second_weight, second_component, partition_texel, mixed_texel, texel_from, solid_texel, error_texel, channel}
use Rattle.texel.specs.BlockTexel.{sound_texel, block_texel, in_row, block_channel, block_into}
use Rattle.block_core.specs.declared.FlatFrame.{FlatFrame}
use Rattle.block_core.specs.inner.Prepared.{frame_of, volume_frame_of, texel_on_grid, prepared_texel}
use Rattle.block_buffer.specs.inner.Painted.{texel_number, painted}
use Rattle.block_buffer.proofs.Painting.{painted_ext, one_of}
use Rattle.block_core.specs.inner.Held.{Held}
use Rattle.block_core.proofs.Frames.{texels_by_layers, inside, in_volume_lem}
use Rattle.block_levels.proofs.Levels.{layer_le}

-- the line of a texel's partition
pub which_is : (h : BlockHeader) (small : Bool) (x y : ℕ)
    → pick (eqb h.partitions 1) 0 (select_by (seeds_of h.index h.partitions small) x y) ≡ partition_of h.index h.partitions small x y 0
which_is h small x y = row_is h.index h.partitions small x y 0 _ (agrees h.index h.partitions small x y)

module _ (modes : List ℕ) (count : ℕ) (ends : List Level) (p : ℕ) (four : p < 4) (b : Bytes (get_or (table_of modes count ends) p no_pair))
    (first second component : ℕ) (hf : first ≤ 64) (hs : second ≤ 64) where
  -- on a line of kinds 0 and 1
  on_line : (kind : Kind) → line_texel kind (get_or (tab (λ k. line_of (get_or (table_of modes count ends) k no_pair)) 4) p []) first second component
      ≡ texel_of (expanded_pair kind (get_or (table_of modes count ends) p no_pair)) (level first) (level second) component
  on_line kind =
      ap (λ (l : List ℕ). line_texel kind l first second component) (get_or_tab (λ k. line_of (get_or (table_of modes count ends) k no_pair)) 4 p [] four)
      ∙ line_texel_lem kind (get_or (table_of modes count ends) p no_pair) first second component b.first b.second hf hs

  on_kind : (kind : Kind) → texel_on kind (get_or (lines_by kind modes count ends) p []) first second component
      ≡ partition_texel kind modes count ends p (level first) (level second) component
  unfolding texel_on lines_by
  on_kind Unorm16 = on_line Unorm16
  on_kind Srgb8 = on_line Srgb8
  on_kind Float16 =
      ap (λ (l : List ℕ). half_texel_on l first second component) (get_or_tab (λ k. half_line_of (get_or (half_table_of modes count ends) k no_half)) 4 p [] four)
      ∙ half_line_lem (get_or (half_table_of modes count ends) p no_half) (level first) (level second) component

-- with no second component the second weight does not count
no_second : (kind : Kind) (modes : List ℕ) (count : ℕ) (ends : List Level) (p : ℕ) (first second third : Level)
    → partition_texel kind modes count ends p first second 4 ≡ partition_texel kind modes count ends p first third 4
unfolding texel_of half_texel half_channel channel_of weight_of
no_second Unorm16 modes count ends p first second third = refl
no_second Srgb8 modes count ends p first second third = refl
no_second Float16 modes count ends p first second third = refl

module _ (h : BlockHeader) (stored : ℕ → ℕ) where
  abbrev weights : List Level
  weights = weight_levels h.grid.range stored

  abbrev points : List LevelPair
  points = points_of weights h.grid.planes (h.grid.width * h.grid.height * h.grid.depth)

  most : (k : ℕ) → cell.level_in weights k ≤ 64
  unfolding weight_levels cell.level_in
  most k = tab_all (λ x. x.0 ≤ 64) (λ i. level (unquant_weight h.grid.range (stored i))) (level 0) (λ i. weight_le h.grid.range (stored i)) (omega arith) 64 k

  -- the two levels of a point are bytes
  pub byte_levels : ByteLevels points
  unfolding points_of point_of padded
  byte_levels k = tab_all pairs.BytePair (λ i. pick (ltb i (h.grid.width * h.grid.height * h.grid.depth)) (point_of weights h.grid.planes i) no_point) no_point each none 64 k where
    none : pairs.BytePair no_point
    none = record { first = omega arith; second = omega arith }

    two : (a b : ℕ) → a ≤ 64 → b ≤ 64 → pairs.BytePair (level_pair a b)
    two a b p q = record { first = omega arith; second = omega arith }

    second : (i : ℕ) (t : Bool) → pick t (cell.level_in weights (i * h.grid.planes + 1)) 0 ≤ 64
    second i true = most (i * h.grid.planes + 1)
    second i false = omega arith

    each : (i : ℕ) → pairs.BytePair (pick (ltb i (h.grid.width * h.grid.height * h.grid.depth)) (point_of weights h.grid.planes i) no_point)
    each i = go (ltb i (h.grid.width * h.grid.height * h.grid.depth)) where
      go : (t : Bool) → pairs.BytePair (pick t (point_of weights h.grid.planes i) no_point)
      go true = two _ _ (most (i * h.grid.planes)) (second i (eqb h.grid.planes 2))
      go false = none

  -- with one plane a point is its weight
  pub one_plane_lem : eqb h.grid.planes 2 ≡ false → OnePlane points
  unfolding points_of point_of padded
  one_plane_lem e k = tab_all (λ p. p.0 ≤ 64) (λ i. pick (ltb i (h.grid.width * h.grid.height * h.grid.depth)) (point_of weights h.grid.planes i) no_point) no_point each (omega arith) 64 k where
    each : (i : ℕ) → (pick (ltb i (h.grid.width * h.grid.height * h.grid.depth)) (point_of weights h.grid.planes i) no_point).0 ≤ 64
    each i = go (ltb i (h.grid.width * h.grid.height * h.grid.depth)) where
      go : (t : Bool) → (pick t (point_of weights h.grid.planes i) no_point).0 ≤ 64
      go true = rw e (omega (arith, most (i * h.grid.planes)))
      go false = omega arith

-- ---- a texel from its weights

module _ (fp : ℕ) (kind : Kind) (h : BlockHeader) (ends : List Level) (stored : ℕ → ℕ) (x y z : ℕ) where
  abbrev which : ℕ
  which = partition_of h.index h.partitions (is_small fp) x y z

  abbrev shown : Level → Level → ℕ → Texel
  shown = partition_texel kind h.modes h.partitions ends which

  abbrev plane : ℕ → ℕ
  plane = plane_weight fp kind h ends (weights h stored) x y z

  module _ {first second : ℕ} (ef : first ≡ plane 0) (es : h.grid.planes ≡ 2 → second ≡ plane 1) where
    -- the second weight counts with two planes only
    second_told : (t : Bool) → eqb h.grid.planes 2 ≡ t
        → shown (level (plane 0)) (level second) (pick t h.component 4)
        ≡ shown (level (plane 0)) (level (pick t (plane 1) (plane 0))) (pick t h.component 4)
    second_told true e = ap (λ (k : ℕ). shown (level (plane 0)) (level k) h.component) (es (eqb-true h.grid.planes 2 e))
    second_told false e = no_second kind h.modes h.partitions ends which _ _ _

    -- the texel by its partition's pair and the weights of both planes
    pub by_pair : shown (level first) (level second) (second_component fp kind h ends (weights h stored) x y z) ≡ mixed_texel fp kind h ends (weights h stored) x y z
    unfolding mixed_texel second_weight second_component
    by_pair =
        ap (λ (k : ℕ). shown (level k) (level second) (second_component fp kind h ends (weights h stored) x y z)) ef
        ∙ second_told (eqb h.grid.planes 2) refl

    -- and by its partition's line
    by_line : ((k : ℕ) → modes.level_at ends k ≤ 255) → first ≤ 64 → second ≤ 64
        → texel_on kind (get_or (lines_in kind h ends) which []) first second (second_component fp kind h ends (weights h stored) x y z) ≡ mixed_texel fp kind h ends (weights h stored) x y z
    by_line bytes f s =
        let four = partition_lt_4 h.index h.partitions (is_small fp) x y z in
        on_kind h.modes h.partitions ends which four (table_bytes h.modes h.partitions ends bytes which no_pair four) first second _ f s kind ∙ by_pair

module _ (fp : ℕ) (kind : Kind) (h : BlockHeader) (ends : List Level) (stored : ℕ → ℕ) (l : Limits h.grid) (n : weight_count h.grid ≤ 64) where
  -- ---- of a flat block

  module _ (flat : is_volume fp ≡ false) (one : h.grid.depth ≡ 1) (x y : ℕ) (hx : x < width_of fp) (hy : y < height_of fp) where
    abbrev gs : ℕ
    gs = grid_place (scale_of (width_of fp)) x h.grid.width

    abbrev gt : ℕ
    gt = grid_place (scale_of (height_of fp)) y h.grid.height

    column : gs ≤ 16 * (h.grid.width - 1)
    unfolding frame_of
    column = (inside fp h.grid l n).columns x hx

    row : gt ≤ 16 * (h.grid.height - 1)
    unfolding frame_of
    row = (inside fp h.grid l n).rows y hy

    -- its points are those of one layer
    layer : points h stored ≡ points_of (weights h stored) h.grid.planes (h.grid.width * h.grid.height)
    layer = ap (points_of (weights h stored) h.grid.planes) (ap (λ (d : ℕ). h.grid.width * h.grid.height * d) one ∙ mul-one (h.grid.width * h.grid.height))

    abbrev read : (LevelPair → ℕ) → ℕ
    read plane = read_of plane (points h stored) h.grid.width h.grid.height gs gt

    infilled : (plane : ℕ) → plane_weight fp kind h ends (weights h stored) x y 0 plane ≡ infill_of (weights h stored) h.grid.width h.grid.height h.grid.planes plane gs gt
    unfolding plane_weight
    infilled plane = rw flat

    first_is : read first_level ≡ plane_weight fp kind h ends (weights h stored) x y 0 0
    first_is = rw (layer, infilled 0)
        (first_read h.grid.width h.grid.height gs gt (omega (arith, l.width_low)) (omega (arith, l.height_low)) column row (weights h stored) h.grid.planes (most h stored) (layer_le h.grid l n))

    second_is : h.grid.planes ≡ 2 → read second_level ≡ plane_weight fp kind h ends (weights h stored) x y 0 1
    second_is e = rw (layer, infilled 1)
        (second_read h.grid.width h.grid.height gs gt (omega (arith, l.width_low)) (omega (arith, l.height_low)) column row (weights h stored) h.grid.planes (most h stored) (layer_le h.grid l n) e)

    first_most : read first_level ≤ 64
    first_most = rw layer (first_le h.grid.width h.grid.height gs gt (omega (arith, l.width_low)) (omega (arith, l.height_low)) column row (weights h stored) h.grid.planes (most h stored) (layer_le h.grid l n))

    last_most : read second_level ≤ 64
    last_most = rw layer (second_most h.grid.width h.grid.height gs gt (omega (arith, l.width_low)) (omega (arith, l.height_low)) column row (weights h stored) h.grid.planes (most h stored) (layer_le h.grid l n))

    -- the texel by its partition's pair and the weights that are read
    pub flat_pair : partition_texel kind h.modes h.partitions ends (partition_of h.index h.partitions (is_small fp) x y 0) (level (read first_level)) (level (read second_level)) (second_component fp kind h ends (weights h stored) x y 0)
        ≡ mixed_texel fp kind h ends (weights h stored) x y 0
    flat_pair = by_pair fp kind h ends stored x y 0 first_is second_is

    -- what is left to do for a texel gives the texel
    pub prepared : ((k : ℕ) → modes.level_at ends k ≤ 255)
        → prepared_texel kind h.grid (second_component fp kind h ends (weights h stored) x y 0) (points h stored) (lines_in kind h ends) (seeds_of h.index h.partitions (is_small fp)) h.partitions (frame_of fp) x y
        ≡ mixed_texel fp kind h ends (weights h stored) x y 0
    unfolding prepared_texel texel_on_grid frame_of
    prepared bytes = rw (which_is h (is_small fp) x y) (by_line fp kind h ends stored x y 0 first_is second_is bytes first_most last_most)

  -- ---- of a volume

  module _ (volume : is_volume fp ≡ true) (x y z : ℕ) (hx : x < width_of fp) (hy : y < height_of fp) (hz : z < depth_of fp) where
    abbrev vs : ℕ
    vs = grid_place (scale_of (width_of fp)) x h.grid.width

    abbrev vt : ℕ
    vt = grid_place (scale_of (height_of fp)) y h.grid.height

    abbrev vr : ℕ
    vr = grid_place (scale_of (depth_of fp)) z h.grid.depth

    placed : WithinGrid h.grid.width h.grid.height h.grid.depth vs vt vr
    unfolding volume_frame_of
    placed = on_grid _ _ _ (volume_frame_of fp) (in_volume_lem fp h.grid l n) x y z hx hy hz refl refl refl

    simplex : (plane : ℕ) → plane_weight fp kind h ends (weights h stored) x y z plane
        ≡ volume_infill (weights h stored) h.grid.width h.grid.height h.grid.depth h.grid.planes plane vs vt vr
    unfolding plane_weight
    simplex plane = rw volume

    pub volume_prepared : ((k : ℕ) → modes.level_at ends k ≤ 255)
        → volume_texel kind h.grid.width h.grid.height h.grid.depth (second_component fp kind h ends (weights h stored) x y z) (points h stored) (lines_in kind h ends)
        h.index h.partitions (is_small fp) (volume_frame_of fp) x y z
        ≡ mixed_texel fp kind h ends (weights h stored) x y z
    unfolding volume_texel volume_texel_at volume_frame_of
    volume_prepared bytes =
        by_line fp kind h ends stored x y z
        (first_volume _ _ _ _ _ _ placed (weights h stored) h.grid.planes (most h stored) ∙ sym (simplex 0))
        (λ e. second_volume _ _ _ _ _ _ placed (weights h stored) h.grid.planes (most h stored) e ∙ sym (simplex 1)) bytes
        (first_volume_le _ _ _ _ _ _ placed (weights h stored) h.grid.planes (most h stored)) (second_volume_le _ _ _ _ _ _ placed (weights h stored) h.grid.planes (most h stored))

-- ---- all texels

-- what is painted hangs on the texels of the block alone
painted_as : (fp : ℕ) (s t : ℕ → ℕ → Texel) (old : List ℕ) → ((x q : ℕ) → x < width_of fp → q < height_of fp * depth_of fp → s x q ≡ t x q)
    → painted (width_of fp) s (texels_of fp) old ≡ painted (width_of fp) t (texels_of fp) old
unfolding texels_of
painted_as fp s t old e = rw (mul_assoc (width_of fp) (height_of fp) (depth_of fp)) (painted_ext (width_of fp) (height_of fp * depth_of fp) s t old e)

-- a flat block has one layer
one_deep : (fp : ℕ) → is_volume fp ≡ false → depth_of fp ≡ 1
unfolding is_volume
one_deep fp e = flat_depth fp (omega (arith, ltb-false 13 fp e))

pub painted_into : (fp : ℕ) (kind : Kind) (B : ℕ) (t : ℕ → ℕ → Texel) (old : List ℕ) {l : List ℕ} → ((x q : ℕ) → t x q ≡ in_row fp (block_texel fp kind B) x q)
    → l ≡ painted (width_of fp) t (texels_of fp) old → l ≡ block_into fp kind B old
unfolding painted texel_number block_into block_channel channel
painted_into fp kind B t old e p = p ∙ replaced_ext 0 _ _ (4 * texels_of fp) old (λ k h. ap (λ (u : Texel). channel u (k % 4)) (e _ _))

-- what a buffer of 864 numbers holds then
pub held : (fp : ℕ) (kind : Kind) (B : ℕ) (old l : List ℕ) → length old ≡ 864 → l ≡ block_into fp kind B old → Held fp kind B l
unfolding block_into replaced
held fp kind B old l s e = record {
  size = ap length e ∙ length_tab _ (length old) ∙ s;
  holds = λ k h. ap (λ (m : List ℕ). get_or m k 0) e ∙ replaced_here 0 (block_channel fp kind B) (4 * texels_of fp) old k h (omega (arith, h, s, texels_le fp));
}

-- ---- the steps of a coded block

pub ends_le : (range : ℕ) (f : ℕ → ℕ) (k : ℕ) → modes.level_at (endpoint_levels range f) k ≤ 255
unfolding endpoint_levels
ends_le range f k = tab_all (λ x. x.0 ≤ 255) (λ i. level (unquant_endpoint range (f i))) (level 0) (λ i. endpoint_le range (f i)) (omega arith) 18 k

module _ (fp : ℕ) (kind : Kind) (B : ℕ) (h : BlockHeader) (old : List ℕ) {l : List ℕ} (i : Limits h.grid) (n : weight_count h.grid ≤ 64)
    {points : List LevelPair} {lines : List (List ℕ)} {small : Bool} {component : ℕ}
    (el : points ≡ points_of (weight_levels h.grid.range (weight_at B h)) h.grid.planes (h.grid.width * h.grid.height * h.grid.depth))
    (et : lines ≡ lines_in kind h (endpoint_levels (endpoint_range_of h) (endpoint_at B h)))
    (em : small ≡ is_small fp) (ec : component ≡ pick (eqb h.grid.planes 2) h.component 4) where
  pub flat_told : is_volume fp ≡ false → h.grid.depth ≡ 1 → {seeds : Seeds} {f : FlatFrame} → seeds ≡ seeds_of h.index h.partitions small → f ≡ frame_of fp
      → l ≡ painted f.width (prepared_texel kind h.grid component points lines seeds h.partitions f) (f.height * f.width) old
      → l ≡ painted (width_of fp) (in_row fp (texel_from fp kind h (endpoint_at B h) (weight_at B h))) (texels_of fp) old
  unfolding texel_from second_component frame_of
  flat_told flat one {seeds} {f} es ef w =
      let d = one_deep fp flat in
      let count : height_of fp * width_of fp ≡ texels_of fp = sym (texels_by_layers fp ∙ ap (λ (k : ℕ). k * height_of fp * width_of fp) d ∙ ap (λ (k : ℕ). k * width_of fp) (one-mul (height_of fp))) in
      w
      ∙ ap (λ (k : FlatFrame). painted k.width (prepared_texel kind h.grid component points lines seeds h.partitions k) (k.height * k.width) old) ef
      ∙ ap (λ (k : ℕ). painted (width_of fp) (prepared_texel kind h.grid component points lines seeds h.partitions (frame_of fp)) k old) count
      ∙ painted_as fp _ _ old (λ x q hx hq.
      let hy : q < height_of fp = subst (λ (k : ℕ). q < k) (ap (λ (k : ℕ). height_of fp * k) d ∙ mul-one (height_of fp)) hq in
      rw (mod-eq_of_lt hy, div-eq_of_lt hy, el, et, es, em, ec) (prepared fp kind h _ (weight_at B h) i n flat one x q hx hy (ends_le (endpoint_range_of h) (endpoint_at B h))))

  pub volume_told_lem : is_volume fp ≡ true → {f : VolumeFrame} → f ≡ volume_frame_of fp
      → l ≡ painted f.width (by_rows f.height (volume_texel kind h.grid.width h.grid.height h.grid.depth component points lines h.index h.partitions small f)) (f.depth * f.height * f.width) old
      → l ≡ painted (width_of fp) (in_row fp (texel_from fp kind h (endpoint_at B h) (weight_at B h))) (texels_of fp) old
  unfolding texel_from second_component volume_frame_of
  volume_told_lem volume {f} ef w =
      w
      ∙ ap (λ (k : VolumeFrame). painted k.width (by_rows k.height (volume_texel kind h.grid.width h.grid.height h.grid.depth component points lines h.index h.partitions small k)) (k.depth * k.height * k.width) old) ef
      ∙ ap (λ (k : ℕ). painted (width_of fp) (by_rows (height_of fp) (volume_texel kind h.grid.width h.grid.height h.grid.depth component points lines h.index h.partitions small (volume_frame_of fp))) k old) (sym (texels_by_layers fp))
      ∙ painted_as fp _ _ old (λ x q hx hq.
      let pos = one_of (height_of fp) (depth_of fp) hq in
      let hy = mod-lt q pos in
      let hz : q / height_of fp < depth_of fp = (div-lt_iff_lt-mul pos).1 (omega (arith, mul_comm (height_of fp) (depth_of fp))) in
      rw (el, et, em, ec) (volume_prepared fp kind h _ (weight_at B h) i n volume x (q % height_of fp) (q / height_of fp) hx hy hz (ends_le (endpoint_range_of h) (endpoint_at B h))))

-- ---- the three verdicts

module _ (fp : ℕ) (kind : Kind) (B : ℕ) (x y z : ℕ) where
  pub shows_fault : (fault_of (takes_hdr kind) fp B ≡ 0 → ⊥) → error_texel kind ≡ block_texel fp kind B x y z
  unfolding block_texel
  shows_fault h = rw (ne_eqb _ 0 h)

  pub shows_void : fault_of (takes_hdr kind) fp B ≡ 0 → is_void (mode_at fp B) ≡ true → solid_texel kind (hdr_void_extent B) (colour_at B) ≡ block_texel fp kind B x y z
  unfolding block_texel sound_texel
  shows_void e v = rw (eq-eqb _ 0 e, v)

  pub shows_coded : fault_of (takes_hdr kind) fp B ≡ 0 → is_void (mode_at fp B) ≡ false → (h : BlockHeader) → h ≡ header_at fp B
      → texel_from fp kind h (endpoint_at B h) (weight_at B h) x y z ≡ block_texel fp kind B x y z
  unfolding block_texel sound_texel
  shows_coded e v h q = rw (eq-eqb _ 0 e, v, q)

-- the grid of a coded block without fault is deep in a volume and has depth 1 in a flat block
module _ (hdr : Bool) (fp B : ℕ) where
  coded_deep : fault_of hdr fp B ≡ 0 → is_void (mode_at fp B) ≡ false → is_deep (header_at fp B).grid ≡ is_volume fp
  unfolding header_at header_with mode_at
  coded_deep e v = go (block_mode_in (is_volume fp) (field B 0 11)) refl v where
    go : (m : BlockMode) → block_mode_in (is_volume fp) (field B 0 11) ≡ m → is_void m ≡ false → is_deep (grid_in (block_mode_in (is_volume fp) (field B 0 11))) ≡ is_volume fp
    go VoidExtent q w = absurd (let k : ◌≡◌ {A = Bool} true false = w in let k2 : ◌≡◌ {A = ℕ} 0 1 = cc in omega arith)
    go Reserved q w = absurd (omega (arith, reserved_fault hdr fp B q, e))
    go (Grid g) q w = rw q (mode_deep (is_volume fp) (field B 0 11) (field_lt B 0 11) g q)

  pub flat_grid_lem : fault_of hdr fp B ≡ 0 → is_void (mode_at fp B) ≡ false → is_volume fp ≡ false → (header_at fp B).grid.depth ≡ 1
  unfolding is_deep
  flat_grid_lem e v flat =
      let l = coded_limits hdr fp B e v in
      omega (arith, ltb-false 1 (header_at fp B).grid.depth (coded_deep e v ∙ flat), l.depth_low)
