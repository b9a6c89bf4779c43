-- The picture of a symbolic block, which goes by counts, is the texel that the stages of a block give for its settings and numbers.
-- Assumes nothing.
use mathlib.Core.Path.{◌≡◌, refl, sym, ap, ap₂, ◌∙◌}
use mathlib.Core.Bool.{Bool, true, false}
use mathlib.Core.List.{List}
use Prim.Native.Nat.{ℕ, zero, suc, ◌+◌, ◌-◌, ◌*◌, ◌/◌, ◌%◌, ◌≤◌, ◌<◌}
use native.Mathlib.Nat.{zero-mul, zero-add}
use native.Mathlib.Decide.{dec_lt}
use native.Mathlib.Omega.{arith}
use lib.Arith.{digits_lt}
use lib.Dec.{eqb, ltb}
use lib.ListN.{get_or}
use borrow.Author.Tests.{eqb-true, eqb-false, eq-eqb, ne_eqb, ltb-true, lt-ltb}
use Rattle.laws.specs.Choice.{pick, both}
use Rattle.laws.specs.Table.{tab}
use Rattle.laws.proofs.Filling.{get_or_tab, tab_all}
use Rattle.encoding.specs.declared.Level.{Level}
use Rattle.quantization.specs.Ranges.{endpoint_range}
use Rattle.quantization.specs.Unquantise.{unquant_endpoint, unquant_weight}
use Rattle.quantization.proofs.Levels.{endpoint_le, weight_le}
use Rattle.partition.proofs.Bounds.{partition_lt, partition_lt_4}
use Rattle.weight_grid.specs.Cell.{level, level_in, cell_of}
use Rattle.weight_grid.specs.Bilinear.{blend_of, infill_of}
use Rattle.weight_grid.proofs.Factors.{blend_le}
use Rattle.footprint.specs.Footprint.{is_volume}
use Rattle.volume_infill.specs.Simplex.{volume_cell_of, simplex_of, volume_infill}
use Rattle.volume_infill.proofs.Simplex.{simplex_le}
use Rattle.volume_infill.proofs.Reading.{volume_point_lt}
use Rattle.endpoint_arithmetic.specs.declared.EndpointPair.{EndpointPair}
use Rattle.color_endpoint.specs.Modes as modes
use Rattle.color_endpoint.specs.Table.{number_count, start_of, numbers_from, table_of}
use Rattle.color_endpoint.proofs.Laws.{table_at, entry_used}
use Rattle.interpolation.specs.declared.Kind.{Kind}
use Rattle.interpolation.specs.declared.Kind.TheVariants.{Unorm16, Srgb8, Float16}
use Rattle.interpolation.specs.declared.Texel.{Texel}
use Rattle.endpoint_arithmetic.specs.Pair.{zero_pair}
use Rattle.color_endpoint.specs.Modes.{pair_of}
use Rattle.half_float.specs.Half.{half_of}
use Rattle.half_pair.specs.declared.HalfPair.{HalfPair}
use Rattle.half_pair.specs.Pair.{half_pair_of, zero_half, no_half, half_table_of}
use Rattle.half_pair.specs.Texel.{ends_of, hdr_at, half_channel, half_texel}
use Rattle.half_pair.proofs.Same.{half_same, half_sixteen}
use Rattle.interpolation.specs.Expansion.{expand_of, expanded_end, expanded_pair, no_pair}
use Rattle.interpolation.specs.Texel.{mix_of, weight_of, channel_of, texel_of}
use Rattle.interpolation.proofs.Laws.{expand_le, channel_whole, weight_none}
use Rattle.block_header.specs.Counts.{weight_count, endpoint_count, bits_left, endpoint_range_of}
use Rattle.texel.specs.Meaning.{endpoint_levels, weight_levels, plane_weight, second_weight, second_component, partition_texel, mixed_texel, texel_from}
use Rattle.symbolic_block.specs.declared.SymbolicBlock.{SymbolicBlock}
use Rattle.symbolic_block.specs.Fields.{sheet_grid, header_of, mode_in, endpoint_in, weight_in}
use Rattle.symbolic_block.specs.Picture.{widened_weight, first_grid, second_grid, point_weight, infill_weight, simplex_weight, place_weight, numbers_of, numbers_of_first, bits_left_over, range_of_endpoints, widened_numbers, pair_channel, partition_at, channel_grid, channel_at, mixed_picture}
use Rattle.symbolic_block.proofs.Room.{pick_le}
use Rattle.color_endpoint.proofs.Pairs.{Bytes, pair_same, pair_bytes}

-- what is needed of a mode sheet
pub record Counted (s : SymbolicBlock) : Type 0 where
  pub depth_low : 1 ≤ s.depth
  pub planes_low : 1 ≤ s.planes
  pub planes_most : s.planes ≤ 2
  pub partitions_low : 1 ≤ s.partitions
  pub modes_most : (p : ℕ) → p < 4 → p < s.partitions → mode_in s p ≤ 15
  pub weights_most : weight_count (sheet_grid s) ≤ 64
  pub numbers_most : endpoint_count (header_of s) ≤ 18

-- numbers in a list of levels up to 255
levels_le : (g : ℕ → ℕ) → ((i : ℕ) → g i ≤ 255) → (n k : ℕ) → modes.level_at (tab (λ i. level (g i)) n) k ≤ 255
levels_le g h n k = tab_all (λ x. x.0 ≤ 255) (λ i. level (g i)) modes.no_level h (omega arith) n k

-- a flat grid's cells are those of the first layer
first_layer : (levels : List Level) (width height depth planes plane x y : ℕ) → 1 ≤ depth
    → cell_of levels width height planes plane x y ≡ volume_cell_of levels width height depth planes plane x y 0
unfolding cell_of volume_cell_of
first_layer levels width height depth planes plane x y h = rw (lt-ltb 0 depth h, zero-mul height, zero-add y)

-- ---- mixing

-- a channel of an expanded end
end_at : (kind : Kind) (e : List ℕ) (c : ℕ) → c < 4 → get_or (expanded_end kind e) c 0 ≡ expand_of kind (get_or e c 0)
unfolding expanded_end
end_at kind e zero h = refl
end_at kind e (suc zero) h = refl
end_at kind e (suc (suc zero)) h = refl
end_at kind e (suc (suc (suc zero))) h = refl
end_at kind e (suc (suc (suc (suc c)))) h = absurd (omega arith)

-- of bytes and a weight of 0..64, the mix needs no cut to 16 bits
mix_whole : (kind : Kind) (p : EndpointPair) → Bytes p → (first second component c : ℕ) → c < 4 → first ≤ 64 → second ≤ 64
    → channel_of (expanded_pair kind p) (level first) (level second) component c
    ≡ mix_of (expand_of kind (get_or p.e0 c 0)) (expand_of kind (get_or p.e1 c 0)) (weight_of component (level first) (level second) c).0
unfolding expanded_pair
mix_whole kind p b first second component c h hf hs =
    let e0 = end_at kind p.e0 c h in
    let e1 = end_at kind p.e1 c h in
    channel_whole (expanded_pair kind p) (level first) (level second) component c
    (rw e0 (expand_le kind (get_or p.e0 c 0) (b.first c))) (rw e1 (expand_le kind (get_or p.e1 c 0) (b.second c))) hf hs
    ∙ λ j. mix_of (e0 j) (e1 j) (weight_of component (level first) (level second) c).0

module _ (s : SymbolicBlock) (f : Counted s) where
  by_planes : {A : Type 0} → (s.planes ≡ 2 → A) → (s.planes ≡ 1 → A) → A
  by_planes {A} two one = go (eqb s.planes 2) refl where
    go : (b : Bool) → eqb s.planes 2 ≡ b → A
    go true e = two (eqb-true s.planes 2 e)
    go false e = one (omega (arith, eqb-false s.planes 2 e, f.planes_low, f.planes_most))

  -- ---- weights

  abbrev weights : List Level
  weights = weight_levels s.range (weight_in s)

  widened_at : (n : ℕ) → n < 64 → level_in weights n ≡ widened_weight s n
  unfolding level_in weight_levels widened_weight
  widened_at n h = ap (λ (l : Level). l.0) (get_or_tab (λ i. level (unquant_weight s.range (weight_in s i))) 64 n (level 0) h)

  count_is : weight_count (sheet_grid s) ≡ s.width * s.height * s.depth * s.planes
  unfolding weight_count
  count_is = refl

  -- a plane whose weights fill a grid
  module _ (plane : ℕ) (in-planes : plane < s.planes) (grid : ℕ → ℕ) (fills : (i : ℕ) → widened_weight s (i * s.planes + plane) ≡ grid i) where
    point_is : (x y z : ℕ) → volume_cell_of weights s.width s.height s.depth s.planes plane x y z ≡ point_weight s grid x y z
    unfolding volume_cell_of point_weight
    point_is x y z = go ((z * s.height + y) * s.width + x) refl (ltb x s.width) (ltb y s.height) (ltb z s.depth) refl refl refl where
      go : (n : ℕ) → n ≡ (z * s.height + y) * s.width + x → (a b c : Bool) → ltb x s.width ≡ a → ltb y s.height ≡ b → ltb z s.depth ≡ c
          → pick a (pick b (pick c (level_in weights (n * s.planes + plane)) 0) 0) 0 ≡ pick (both a (both b c)) (grid n) 0
      go n e true true true p q r =
          let l = volume_point_lt s.width s.height s.depth x y z (ltb-true x s.width p) (ltb-true y s.height q) (ltb-true z s.depth r) in
          let k : n * s.planes + plane < s.width * s.height * s.depth * s.planes = digits_lt (rw e l) in-planes in
          widened_at (n * s.planes + plane) (omega (arith, k, count_is, f.weights_most)) ∙ fills n
      go n e true true false p q r = refl
      go n e true false c p q r = refl
      go n e false b c p q r = refl

    -- a flat grid is the first layer
    flat_is : (x y : ℕ) → cell_of weights s.width s.height s.planes plane x y ≡ point_weight s grid x y 0
    flat_is x y = first_layer weights s.width s.height s.depth s.planes plane x y f.depth_low ∙ point_is x y 0

    infill_is : (gs gt : ℕ) → infill_of weights s.width s.height s.planes plane gs gt ≡ infill_weight s grid gs gt
    unfolding infill_of infill_weight
    infill_is gs gt j =
        blend_of (gs % 16) (gt % 16) (flat_is (gs / 16) (gt / 16) j) (flat_is (gs / 16 + 1) (gt / 16) j)
        (flat_is (gs / 16) (gt / 16 + 1) j) (flat_is (gs / 16 + 1) (gt / 16 + 1) j)

    simplex_is : (gs gt gr : ℕ) → volume_infill weights s.width s.height s.depth s.planes plane gs gt gr ≡ simplex_weight s grid gs gt gr
    unfolding volume_infill simplex_weight
    simplex_is gs gt gr e = simplex_of (gs % 16) (gt % 16) (gr % 16) (λ i j k. point_is (gs / 16 + i) (gt / 16 + j) (gr / 16 + k) e)

    plane_is : (fp : ℕ) (kind : Kind) (ends : List Level) (x y z : ℕ) → plane_weight fp kind (header_of s) ends weights x y z plane ≡ place_weight s fp grid x y z
    unfolding plane_weight place_weight
    plane_is fp kind ends x y z = ap₂ (pick (is_volume fp)) (simplex_is _ _ _) (infill_is _ _)

  first_fills : (i : ℕ) → widened_weight s (i * s.planes + 0) ≡ first_grid s i
  unfolding first_grid
  first_fills i = ap (widened_weight s) (by_planes (λ e. rw e (omega arith)) (λ e. rw e (omega arith)))

  second_fills : s.planes ≡ 2 → (i : ℕ) → widened_weight s (i * s.planes + 1) ≡ second_grid s i
  unfolding second_grid
  second_fills e i = ap (widened_weight s) (rw e (omega arith))

  -- weights are at most 64
  module _ (grid : ℕ → ℕ) (most : (i : ℕ) → grid i ≤ 64) where
    point_le : (column row layer : ℕ) → point_weight s grid column row layer ≤ 64
    unfolding point_weight
    point_le column row layer = go (both (ltb column s.width) (both (ltb row s.height) (ltb layer s.depth))) where
      go : (b : Bool) → pick b (grid ((layer * s.height + row) * s.width + column)) 0 ≤ 64
      go true = most _
      go false = omega arith

    place_le : (fp x y z : ℕ) → place_weight s fp grid x y z ≤ 64
    unfolding place_weight infill_weight simplex_weight
    place_le fp x y z =
        pick_le (is_volume fp) _ _ 64 (simplex_le 64 _ _ _ _ (omega arith) (omega arith) (omega arith) (λ i j k. point_le _ _ _))
        (blend_le 64 _ _ _ _ _ _ (omega arith) (omega arith) (point_le _ _ _) (point_le _ _ _) (point_le _ _ _) (point_le _ _ _))

  first_le : (i : ℕ) → first_grid s i ≤ 64
  unfolding first_grid widened_weight
  first_le i = weight_le s.range _

  second_le : (i : ℕ) → second_grid s i ≤ 64
  unfolding second_grid widened_weight
  second_le i = weight_le s.range _

  -- ---- endpoints

  first_numbers : (p : ℕ) → start_of s.modes p ≡ numbers_of_first s p
  unfolding start_of number_count numbers_of_first numbers_of
  first_numbers zero = refl
  first_numbers (suc p) = ap (λ (n : ℕ). n + 2 * (mode_in s p / 4 + 1)) (first_numbers p)

  plane_bits : 2 * (s.planes - 1) ≡ pick (eqb s.planes 2) 2 0
  plane_bits = by_planes (λ e. rw e) (λ e. rw e)

  left_is : bits_left (header_of s) ≡ bits_left_over s
  unfolding bits_left bits_left_over
  left_is = omega (arith, plane_bits)

  range_is : endpoint_range_of (header_of s) ≡ range_of_endpoints s
  unfolding endpoint_range_of range_of_endpoints
  range_is = ap₂ endpoint_range (first_numbers s.partitions) left_is

  more_numbers : (p q : ℕ) → p ≤ q → numbers_of_first s p ≤ numbers_of_first s q
  unfolding numbers_of_first
  more_numbers p zero h = let e : p ≡ 0 = omega arith in rw e (omega arith)
  more_numbers p (suc q) h =
      elim (dec_lt q p) [
        | yes l ↦ let e : p ≡ suc q = omega arith in rw e (omega arith)
        | no l ↦ omega (arith, more_numbers p q (omega arith))
      ]

  abbrev ends : List Level
  ends = endpoint_levels (endpoint_range_of (header_of s)) (endpoint_in s)

  module _ (p : ℕ) (four : p < 4) (used : p < s.partitions) where
    few : numbers_of s p ≤ 8
    unfolding numbers_of
    few = omega (arith, f.modes_most p four used)

    all_numbers : numbers_of_first s p + numbers_of s p ≤ 18
    unfolding numbers_of_first endpoint_count
    all_numbers = omega (arith, more_numbers (suc p) s.partitions used, first_numbers s.partitions, f.numbers_most)

    number_is : (k : ℕ) → k < numbers_of s p → modes.level_at (numbers_from ends (start_of s.modes p)) k ≡ modes.level_at (widened_numbers s p) k
    unfolding numbers_from endpoint_levels widened_numbers
    number_is k h =
        ap (λ (l : Level). l.0)
        (get_or_tab (λ k. get_or ends (start_of s.modes p + k) modes.no_level) 8 k modes.no_level (omega (arith, few))
        ∙ get_or_tab (λ i. level (unquant_endpoint (endpoint_range_of (header_of s)) (endpoint_in s i))) 18 (start_of s.modes p + k) modes.no_level
        (omega (arith, all_numbers, first_numbers p))
        ∙ (λ j. level (unquant_endpoint (range_is j) (endpoint_in s (first_numbers p j + k))))
        ∙ sym (get_or_tab (λ k. level (unquant_endpoint (range_of_endpoints s) (endpoint_in s (numbers_of_first s p + k)))) (numbers_of s p) k modes.no_level h))

    pair_is : get_or (table_of s.modes s.partitions ends) p no_pair ≡ pair_of (mode_in s p) (widened_numbers s p)
    unfolding numbers_of
    pair_is =
        table_at pair_of zero_pair s.modes ends s.partitions p no_pair four ∙ entry_used pair_of zero_pair s.modes ends s.partitions p used
        ∙ pair_same (mode_in s p) (numbers_from ends (start_of s.modes p)) (widened_numbers s p) number_is

    half_is : get_or (half_table_of s.modes s.partitions ends) p no_half ≡ half_pair_of (mode_in s p) (widened_numbers s p)
    unfolding numbers_of
    half_is =
        table_at half_pair_of zero_half s.modes ends s.partitions p no_half four ∙ entry_used half_pair_of zero_half s.modes ends s.partitions p used
        ∙ half_same (mode_in s p) (numbers_from ends (start_of s.modes p)) (widened_numbers s p) number_is

  level_le : (p k : ℕ) → modes.level_at (widened_numbers s p) k ≤ 255
  unfolding widened_numbers
  level_le p k =
      levels_le (λ i. unquant_endpoint (range_of_endpoints s) (endpoint_in s (numbers_of_first s p + i))) (λ i. endpoint_le (range_of_endpoints s) _) (numbers_of s p) k

  colour_bytes : (p : ℕ) → Bytes (pair_of (mode_in s p) (widened_numbers s p))
  colour_bytes p = pair_bytes (widened_numbers s p) (level_le p) (mode_in s p)

  -- ---- the texel

  module _ (fp : ℕ) (kind : Kind) (x y z : ℕ) where
    abbrev partition : ℕ
    partition = partition_at s fp x y z

    few_lt : partition < 4
    unfolding partition_at
    few_lt = partition_lt_4 _ _ _ x y z

    used_lt : partition < s.partitions
    unfolding partition_at
    used_lt = partition_lt _ _ _ x y z f.partitions_low

    abbrev first : ℕ
    first = place_weight s fp (first_grid s) x y z

    first_is : plane_weight fp kind (header_of s) ends weights x y z 0 ≡ first
    first_is = plane_is 0 f.planes_low (first_grid s) first_fills fp kind ends x y z

    abbrev second : ℕ
    second = second_weight fp kind (header_of s) ends weights x y z

    abbrev named : ℕ
    named = second_component fp kind (header_of s) ends weights x y z

    second_two : s.planes ≡ 2 → second ≡ place_weight s fp (second_grid s) x y z
    unfolding second_weight
    second_two e = rw (eq-eqb s.planes 2 e) (plane_is 1 (omega arith) (second_grid s) (second_fills e) fp kind ends x y z)

    second_one : s.planes ≡ 1 → second ≡ first
    unfolding second_weight
    second_one e = rw (ne_eqb s.planes 2 (λ q. omega (arith, q))) first_is

    second_most : second ≤ 64
    second_most =
        by_planes (λ e. rw (second_two e) (place_le (second_grid s) second_le fp x y z)) (λ e. rw (second_one e) (place_le (first_grid s) first_le fp x y z))

    weight_two : s.planes ≡ 2 → (c : ℕ) → (weight_of named (level first) (level second) c).0 ≡ place_weight s fp (channel_grid s c) x y z
    unfolding weight_of second_component channel_grid
    weight_two e c = rw (eq-eqb s.planes 2 e) (go (eqb c s.component)) where
      go : (b : Bool) → (pick b (level second) (level first)).0 ≡ place_weight s fp (pick b (second_grid s) (first_grid s)) x y z
      go true = second_two e
      go false = refl

    named_none : s.planes ≡ 1 → named ≡ 4
    unfolding second_component
    named_none e = rw (ne_eqb s.planes 2 (λ q. omega (arith, q)))

    grid_one : s.planes ≡ 1 → (c : ℕ) → channel_grid s c ≡ first_grid s
    unfolding channel_grid
    grid_one e c = rw (ne_eqb s.planes 2 (λ q. omega (arith, q)))

    weight_one : s.planes ≡ 1 → (c : ℕ) → c < 4 → (weight_of named (level first) (level second) c).0 ≡ place_weight s fp (channel_grid s c) x y z
    weight_one e c h =
        ap (λ (l : Level). l.0) (weight_none named (level first) (level second) c (omega (arith, named_none e)) h)
        ∙ sym (ap (λ (g : ℕ → ℕ). place_weight s fp g x y z) (grid_one e c))

    weight_is : (c : ℕ) → c < 4 → (weight_of named (level first) (level second) c).0 ≡ place_weight s fp (channel_grid s c) x y z
    weight_is c h = by_planes (λ e. weight_two e c) (λ e. weight_one e c h)

    abbrev numbers : List Level
    numbers = widened_numbers s partition

    abbrev weight : ℕ → ℕ
    weight c = place_weight s fp (channel_grid s c) x y z

    -- a channel of kinds 0 and 1
    line_is : (k : Kind) (c : ℕ) → c < 4 → channel_of (expanded_pair k (pair_of (mode_in s partition) numbers)) (level first) (level second) named c
        ≡ mix_of (expand_of k (get_or (pair_of (mode_in s partition) numbers).e0 c 0)) (expand_of k (get_or (pair_of (mode_in s partition) numbers).e1 c 0)) (weight c)
    line_is k c h =
        mix_whole k (pair_of (mode_in s partition) numbers) (colour_bytes partition) first second named c h (place_le (first_grid s) first_le fp x y z) second_most
        ∙ ap (mix_of (expand_of k (get_or (pair_of (mode_in s partition) numbers).e0 c 0)) (expand_of k (get_or (pair_of (mode_in s partition) numbers).e1 c 0))) (weight_is c h)

    abbrev half : HalfPair
    half = half_pair_of (mode_in s partition) numbers

    -- a channel of kind 2
    half_line_is : (c : ℕ) → c < 4 → half_channel half (level first) (level second) named c ≡ pair_channel Float16 (mode_in s partition) numbers c (weight c)
    unfolding half_channel
    half_line_is c h =
        let sixteen = half_sixteen (mode_in s partition) numbers (level_le partition) in
        ap (half_of (hdr_at half c))
        (channel_whole (ends_of half) (level first) (level second) named c (sixteen.first c) (sixteen.second c) (place_le (first_grid s) first_le fp x y z) second_most
        ∙ ap (mix_of (get_or half.c0 c 0) (get_or half.c1 c 0)) (weight_is c h))

    four_are : {r g b a r2 g2 b2 a2 : ℕ} → r ≡ r2 → g ≡ g2 → b ≡ b2 → a ≡ a2
        → ◌≡◌ {A = Texel} (record { r = r; g = g; b = b; a = a }) (record { r = r2; g = g2; b = b2; a = a2 })
    four_are er eg eb ea = λ j. record { r = er j; g = eg j; b = eb j; a = ea j }

    -- what the partition's texel is, by kind
    shown_is : (k : Kind) → partition_texel k s.modes s.partitions ends partition (level first) (level second) named
        ≡ record {
          r = pair_channel k (mode_in s partition) numbers 0 (weight 0);
          g = pair_channel k (mode_in s partition) numbers 1 (weight 1);
          b = pair_channel k (mode_in s partition) numbers 2 (weight 2);
          a = pair_channel k (mode_in s partition) numbers 3 (weight 3);
        }
    unfolding texel_of half_texel
    shown_is Unorm16 =
        ap (λ (p : EndpointPair). texel_of (expanded_pair Unorm16 p) (level first) (level second) named) (pair_is partition few_lt used_lt)
        ∙ four_are (line_is Unorm16 0 (omega arith)) (line_is Unorm16 1 (omega arith)) (line_is Unorm16 2 (omega arith)) (line_is Unorm16 3 (omega arith))
    shown_is Srgb8 =
        ap (λ (p : EndpointPair). texel_of (expanded_pair Srgb8 p) (level first) (level second) named) (pair_is partition few_lt used_lt)
        ∙ four_are (line_is Srgb8 0 (omega arith)) (line_is Srgb8 1 (omega arith)) (line_is Srgb8 2 (omega arith)) (line_is Srgb8 3 (omega arith))
    shown_is Float16 =
        ap (λ (p : HalfPair). half_texel p (level first) (level second) named) (half_is partition few_lt used_lt)
        ∙ four_are (half_line_is 0 (omega arith)) (half_line_is 1 (omega arith)) (half_line_is 2 (omega arith)) (half_line_is 3 (omega arith))

    -- both definitions give the same texel
    pub agrees : mixed_picture s fp kind x y z ≡ texel_from fp kind (header_of s) (endpoint_in s) (weight_in s) x y z
    unfolding texel_from mixed_texel partition_at mixed_picture channel_at
    agrees =
        sym (ap (λ (w : ℕ). partition_texel kind s.modes s.partitions ends partition (level w) (level second) named) first_is ∙ shown_is kind)
