-- A block without fault that is no void extent reads as an acceptable symbolic block.
-- Assumes nothing.
use mathlib.Core.Path.{◌≡◌, refl, ◌∙◌}
use mathlib.Core.Bool.{Bool, true, false, not}
use Prim.Native.Nat.{ℕ, ◌+◌, ◌-◌, ◌*◌, ◌^◌, ◌≤◌, ◌<◌}
use native.Mathlib.Omega.{arith}
use lib.Arith.{digits_lt}
use lib.Dec.{T, ltb, eqb}
use lib.ListN.{length, get_or}
use lib.Pow.{pow-add}
use borrow.Author.Tests.{le-ltb, lt-ltb, ltb-true, ltb-false}
use Rattle.laws.specs.Choice.{pick, both}
use Rattle.laws.specs.Table.{tab, padded}
use Rattle.laws.proofs.Filling.{length_tab, length_padded, padded_here, padded_past}
use Rattle.bits.specs.Field.{field}
use Rattle.bits.proofs.Fields.{field_lt}
use Rattle.quantization.specs.Ranges.{most_at}
use Rattle.integer_sequence.specs.Reading.{stored}
use Rattle.block_mode.specs.declared.WeightGrid.{WeightGrid}
use Rattle.block_mode.specs.declared.BlockMode.TheVariants.{Grid}
use Rattle.footprint.specs.Footprint.{is_volume}
use Rattle.volume_mode.specs.Either.{block_mode_in, is_deep, block_mode_of}
use Rattle.block_mode.specs.Back2D.{Limits}
use Rattle.volume_mode.proofs.Modes.{mode_limits, mode_found, mode_deep}
use Rattle.block_header.specs.declared.BlockHeader.{BlockHeader}
use Rattle.block_header.specs.Counts.{weight_count, weight_bits, component_bits, partition_index_bits, selector_bits, extra_bits, endpoint_count, endpoint_range_of}
use Rattle.block_header.specs.Reasons.{some_hdr, hdr_refused}
use Rattle.block_fault.specs.Bits.{mode_at, is_void, is_reserved, grid_in, partitions_at, index_at, selector_at, base_at, extra_at, component_at, mode_of, header_with, header_at, endpoint_at, weight_at}
use Rattle.block_fault.proofs.Sound.{a_grid}
use Rattle.symbolic_block.specs.declared.SymbolicBlock.{SymbolicBlock}
use Rattle.symbolic_block.specs.Fields.{stored_in, Sized}
use Rattle.symbolic_block.specs.Refusals.{within, outside, no_block_mode, modes_misfit, unknown_footprint, bad_mark, bad_hdr, bad_width, bad_height, bad_grid_depth, bad_range, bad_planes, bad_component, bad_partitions, bad_index, bad_selector, bad_modes, bad_endpoints, bad_weights, marked_without, mode_refusals}
use Rattle.symbolic_block.specs.Reading.{mode_block}
use Rattle.laws.proofs.Reasons.{None, ◌also◌, none_at, none_either}
use Rattle.symbolic_block.proofs.Lists.{is_within, all_within, stored_at, zeros_unused}
use Rattle.symbolic_block.proofs.Classes.{mode_most, read_fits, fit_all}
use Rattle.symbolic_block.proofs.Numbers.{number_most}
use Rattle.symbolic_block.proofs.Opened.{mode_faults, header_is, endpoint_is, weight_is}
use Rattle.symbolic_block.proofs.Room.{index_le, selector_le, component_le, pick_le}

-- what every header is that is read
pub record Settled (fp : ℕ) (h : BlockHeader) : Type 0 where
  pub coded : no_block_mode h.grid ≡ false
  pub deep : is_deep h.grid ≡ is_volume fp
  pub limits : Limits h.grid
  pub component_in : h.component ≤ pick (eqb h.grid.planes 2) 3 0
  pub partitions_low : 1 ≤ h.partitions
  pub partitions_most : h.partitions ≤ 4
  pub index_in : h.index ≤ pick (eqb h.partitions 1) 0 1023
  pub selector_in_lem : h.selector ≤ pick (eqb h.partitions 1) 0 3
  pub modes_in : T (within 4 h.partitions 15 (λ i. get_or h.modes i 0))
  pub selected : modes_misfit h ≡ false
  pub modes_4 : length h.modes ≡ 4

padded_within : (N n most : ℕ) (f : ℕ → ℕ) → ((i : ℕ) → f i ≤ most) → T (within N n most (λ i. get_or (padded N n f 0) i 0))
padded_within N n most f h =
    all_within N n most _ (λ i l m. rw (padded_here f 0 N n i 0 l m) (h i)) (λ i l m. padded_past f 0 N n i 0 l m)

module _ (fp B : ℕ) (g : WeightGrid) (P sel : ℕ) (m : no_block_mode g ≡ false) (deep : is_deep g ≡ is_volume fp) (i : Limits g) (low : 1 ≤ P) (most : P ≤ 4) (s : sel < 2 ^ selector_bits P) where
  abbrev code : ℕ
  code = extra_at B g P sel * 2 ^ 4 + base_at B P

  code< : code < 2 ^ (extra_bits P sel + 4)
  unfolding extra_at base_at
  code< = rw (pow-add 2 (extra_bits P sel) 4) (digits_lt (field_lt B (128 - weight_bits g - extra_bits P sel) (extra_bits P sel)) (field_lt B (13 + partition_index_bits P + selector_bits P) 4))

  component< : component_at B g P sel < 2 ^ component_bits g.planes
  unfolding component_at
  component< = field_lt B (128 - weight_bits g - extra_bits P sel - component_bits g.planes) (component_bits g.planes)

  index< : index_at B P < 2 ^ partition_index_bits P
  unfolding index_at
  index< = field_lt B 13 (partition_index_bits P)

  sel<4 : sel ≤ 3
  sel<4 = omega (arith, selector_le P sel s, pick_le (eqb P 1) 0 3 3 (omega arith) (omega arith))

  settled_with : Settled fp (header_with B g P sel)
  unfolding header_with
  settled_with = record {
    coded = m;
    deep = deep;
    limits = i;
    component_in = component_le g.planes (component_at B g P sel) i.planes_low i.planes_most component<;
    partitions_low = low;
    partitions_most = most;
    index_in = index_le P (index_at B P) index<;
    selector_in_lem = selector_le P sel s;
    modes_in = padded_within 4 P 15 (mode_of P sel code) (mode_most P sel code most sel<4 code<);
    selected = fit_all (header_with B g P sel) (read_fits P sel code most);
    modes_4 = length_padded (mode_of P sel code) 0 4 P;
  }

module _ (fp B : ℕ) (v : is_void (mode_at fp B) ≡ false) (r : is_reserved (mode_at fp B) ≡ false) where
  abbrev g : WeightGrid
  g = grid_in (mode_at fp B)

  is_grid_lem : block_mode_in (is_volume fp) (field B 0 11) ≡ Grid g
  unfolding mode_at
  is_grid_lem = a_grid (mode_at fp B) v r

  coded : no_block_mode g ≡ false
  unfolding no_block_mode
  coded = rw (mode_found (is_volume fp) (field B 0 11) (field_lt B 0 11) g is_grid_lem).is

  partitions_are : partitions_at B ≡ field B 11 2 + 1
  unfolding partitions_at
  partitions_are = refl

  selector< : selector_at B (partitions_at B) < 2 ^ selector_bits (partitions_at B)
  unfolding selector_at
  selector< = field_lt B (13 + partition_index_bits (partitions_at B)) (selector_bits (partitions_at B))

  pub settled : Settled fp (header_at fp B)
  settled =
      rw header_is
      (settled_with fp B g (partitions_at B) (selector_at B (partitions_at B)) coded (mode_deep (is_volume fp) (field B 0 11) (field_lt B 0 11) g is_grid_lem) (mode_limits (is_volume fp) (field B 0 11) (field_lt B 0 11) g is_grid_lem)
      (omega (arith, partitions_are)) (omega (arith, partitions_are, field_lt B 11 2)) selector<)

-- ---- the numbers

pub endpoint_most : (B : ℕ) (h : BlockHeader) (i : ℕ) → i < endpoint_count h → endpoint_at B h i ≤ most_at (endpoint_range_of h)
endpoint_most B h i l = rw (endpoint_is B h i, lt-ltb i (endpoint_count h) l) (number_most (endpoint_range_of h) _ i)

pub endpoint_past : (B : ℕ) (h : BlockHeader) (i : ℕ) → endpoint_count h ≤ i → endpoint_at B h i ≡ 0
endpoint_past B h i l = rw (endpoint_is B h i, le-ltb i (endpoint_count h) l)

pub weight_most : (B : ℕ) (h : BlockHeader) (i : ℕ) → i < weight_count h.grid → weight_at B h i ≤ most_at h.grid.range
weight_most B h i l = rw (weight_is B h i, lt-ltb i (weight_count h.grid) l) (number_most h.grid.range _ i)

pub weight_past : (B : ℕ) (h : BlockHeader) (i : ℕ) → weight_count h.grid ≤ i → weight_at B h i ≡ 0
weight_past B h i l = rw (weight_is B h i, le-ltb i (weight_count h.grid) l)

-- a list of stored numbers that f gives
stored_within : (N n most : ℕ) (f : ℕ → ℕ) → ((i : ℕ) → i < n → f i ≤ most) → ((i : ℕ) → n ≤ i → f i ≡ 0)
    → not (within N n most (stored_in (tab (λ i. stored (f i)) N))) ≡ false
stored_within N n most f u p =
    is_within (within N n most (stored_in (tab (λ i. stored (f i)) N)))
    (all_within N n most _ (λ i l m. rw (stored_at f N i l) (u i m)) (λ i l m. stored_at f N i l ∙ p i m))

-- ---- the whole

inside : (low high x : ℕ) → low ≤ x → x ≤ high → outside low high x ≡ false
inside low high x h l = none_either (ltb x low) (ltb high x) (le-ltb x low h) (le-ltb high x l)

-- a depth in its limits: above 1 in a volume, 1 in a flat block
depth_in : (volume : Bool) (d : ℕ) → 1 ≤ d → d ≤ 6 → ltb 1 d ≡ volume → pick volume (outside 2 6 d) (outside 1 1 d) ≡ false
depth_in true d l m e = inside 2 6 d (ltb-true 1 d e) m
depth_in false d l m e = inside 1 1 d l (ltb-false 1 d e)

-- the HDR mark that is read: in its limits, and neither 20 nor 35
mark_in : (b : Bool) → ltb 1 (pick b 1 0) ≡ false
mark_in true = refl
mark_in false = refl

mark_there : (b : Bool) → both (not (eqb (pick b 1 0) 1)) b ≡ false
mark_there true = refl
mark_there false = refl

mark_earned : (b : Bool) → both (eqb (pick b 1 0) 1) (not b) ≡ false
mark_earned true = refl
mark_earned false = refl

module _ (B : ℕ) (h : BlockHeader) where
  abbrev read : SymbolicBlock
  read = mode_block h (endpoint_at B h) (weight_at B h)

  endpoints_in : bad_endpoints read ≡ false
  unfolding bad_endpoints mode_block
  endpoints_in = stored_within 18 (endpoint_count h) (most_at (endpoint_range_of h)) (endpoint_at B h) (endpoint_most B h) (endpoint_past B h)

  weights_in : bad_weights read ≡ false
  unfolding bad_weights mode_block
  weights_in = stored_within 64 (weight_count h.grid) (most_at h.grid.range) (weight_at B h) (weight_most B h) (weight_past B h)

  pub mode_sized : length h.modes ≡ 4 → Sized read
  unfolding mode_block
  mode_sized e = record {
    colours_4 = length_tab (λ i. 0) 4;
    extents_6 = length_tab (λ i. 0) 6;
    modes_4 = e;
    endpoints_18 = length_tab (λ i. stored (endpoint_at B h i)) 18;
    weights_64 = length_tab (λ i. stored (weight_at B h i)) 64;
  }

  pub mode_accepted : (fp : ℕ) → fp ≤ 23 → Settled fp h → None (mode_faults fp h) → None (mode_refusals fp read)
  unfolding mode_refusals mode_block is_deep unknown_footprint bad_mark bad_hdr bad_width bad_height bad_grid_depth bad_range bad_planes bad_component bad_partitions bad_index bad_selector bad_modes hdr_refused marked_without
  mode_accepted fp low i n =
      let r = none_at (mode_faults fp h) n in
      le-ltb 23 fp low
      also refl
      also mark_in (some_hdr h)
      also inside 2 12 h.grid.width i.limits.width_low i.limits.width_most
      also inside 2 12 h.grid.height i.limits.height_low i.limits.height_most
      also depth_in (is_volume fp) h.grid.depth i.limits.depth_low i.limits.depth_most i.deep
      also le-ltb 11 h.grid.range i.limits.range_most
      also inside 1 2 h.grid.planes i.limits.planes_low i.limits.planes_most
      also le-ltb (pick (eqb h.grid.planes 2) 3 0) h.component i.component_in
      also inside 1 4 h.partitions i.partitions_low i.partitions_most
      also le-ltb (pick (eqb h.partitions 1) 0 1023) h.index i.index_in
      also le-ltb (pick (eqb h.partitions 1) 0 3) h.selector i.selector_in_lem
      also is_within (within 4 h.partitions 15 (λ k. get_or h.modes k 0)) i.modes_in
      also zeros_unused 4
      also zeros_unused 6
      also i.coded
      also r 0 also r 1 also r 2 also r 3
      also i.selected
      also r 4 also r 5 also mark_there (some_hdr h)
      also endpoints_in
      also weights_in
      also mark_earned (some_hdr h)
      also tt
