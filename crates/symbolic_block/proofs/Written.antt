-- An acceptable mode sheet: what is written for it is read back.
-- Assumes nothing.
use mathlib.Core.Path.{◌≡◌, refl, subst, sym, ap, ap₂, ◌∙◌}
use mathlib.Core.Bool.{Bool, true, false}
use Prim.Native.Nat.{ℕ, ◌+◌, ◌-◌, ◌*◌, ◌/◌, ◌%◌, ◌^◌, ◌≤◌, ◌<◌}
use native.Mathlib.Nat.{mod-lt}
use native.Mathlib.Omega.{arith}
use lib.Dec.{eqb}
use lib.ListN.{length, get_or}
use lib.Pow.{pow_pos, split, shr_lt}
use borrow.Author.Tests.{eqb-true, eqb-false}
use Rattle.laws.specs.Choice.{pick}
use Rattle.laws.specs.Table.{padded}
use Rattle.bits.specs.Field.{field, reverse}
use Rattle.bits.proofs.Reverse.{reverse_lt, reverse_reverse}
use Rattle.quantization.specs.Ranges.{encoding_at, bits_at, range_bits}
use Rattle.integer_sequence.specs.Reading.{sequence_at}
use Rattle.block_mode.specs.declared.BlockMode.TheVariants.{Grid}
use Rattle.footprint.specs.Footprint.{is_volume}
use Rattle.volume_mode.specs.Either.{block_mode_in, is_deep, block_mode_of}
use Rattle.volume_mode.proofs.Modes.{found_mode, least_mode}
use Rattle.block_header.specs.declared.BlockHeader.{BlockHeader}
use Rattle.block_header.specs.Counts.{weight_count, weight_bits, extra_bits, endpoint_count, endpoint_range_of}
use Rattle.block_header.specs.Reasons.{some_hdr, hdr_refused}
use Rattle.block_fault.specs.Bits.{mode_at, is_void, partitions_at, index_at, selector_at, base_at, extra_at, component_at, mode_of, header_with, header_at, endpoints_from, endpoint_at, weight_at}
use Rattle.block_fault.specs.Faults.{fault_of}
use Rattle.symbolic_block.specs.declared.SymbolicBlock.{SymbolicBlock}
use Rattle.symbolic_block.specs.Fields.{sheet_grid, header_of, mode_in, endpoint_in, weight_in, Sized}
use Rattle.symbolic_block.specs.Refusals.{mode_refusals}
use Rattle.bits.specs.Cells.{cell, laid}
use Rattle.symbolic_block.specs.Writing.{mode_number, modes_code, endpoint_stream, weight_stream, endpoints_end, component_from, mode_cells}
use Rattle.symbolic_block.specs.Reading.{mode_block, read_block}
use Rattle.laws.proofs.Reasons.{None, none_at}
use Rattle.symbolic_block.proofs.Same.{by_fields}
use Rattle.symbolic_block.proofs.Lists.{within_used, padded_back, stored_back, zeros_back}
use Rattle.bits.proofs.Laid.{Apart, ◌below◌, laid_at, laid_lt}
use Rattle.symbolic_block.proofs.Classes.{code_lt, code_back, all_fit}
use Rattle.symbolic_block.proofs.Numbers.{packed_size, packed_back, reverse_top}
use Rattle.symbolic_block.proofs.Smallest.{smallest}
use Rattle.integer_sequence.specs.Writing.{Smallest}
use Rattle.symbolic_block.proofs.Opened.{mode_faults, mode_no_fault, read_mode, header_is, endpoint_is, weight_is}
use Rattle.symbolic_block.proofs.Room.{from_is, index_lt, selector_lt, several, alone, component_lt, room, component_from_is}
use Rattle.symbolic_block.proofs.Fine.{Fine}

-- a mark of 0 or 1 by whether it is 1
mark_back : (x : ℕ) (b : Bool) → x ≤ 1 → eqb x 1 ≡ b → pick b 1 0 ≡ x
mark_back x true l e = sym (eqb-true x 1 e)
mark_back x false l e = let q : 0 ≡ x = omega (arith, eqb-false x 1 e) in q

module _ (fp : ℕ) (s : SymbolicBlock) (f : Fine fp s) (z : Sized s) where
  abbrev h : BlockHeader
  h = header_of s

  abbrev b : ℕ
  b = laid (mode_cells s)

  -- ---- the cells

  code< : modes_code h < 2 ^ (extra_bits s.partitions s.selector + 4)
  code< =
      code_lt h (several s.partitions s.selector f.selector_in_lem f.partitions_low)
      (within_used 4 s.partitions 15 (mode_in s) f.modes_in 0 (omega arith) f.partitions_low)

  weights< : weight_stream s < 2 ^ weight_bits (sheet_grid s)
  unfolding weight_stream weight_bits
  weights< = packed_size 64 (weight_count (sheet_grid s)) s.range s.weights z.weights_64 f.count_most

  endpoints< : endpoint_stream s < 2 ^ range_bits (endpoint_range_of h) (endpoint_count h)
  unfolding endpoint_stream
  endpoints< = packed_size 18 (endpoint_count h) (endpoint_range_of h) s.endpoints z.endpoints_18 f.numbers_most

  found : (mode_number (block_mode_of (sheet_grid s)) < 2048) × (block_mode_in (is_volume fp) (mode_number (block_mode_of (sheet_grid s))) ≡ Grid (sheet_grid s))
  found = rw f.deep at (found_mode (sheet_grid s) (mode_number (block_mode_of (sheet_grid s))) f.found)

  end_is : endpoints_from s.partitions + range_bits (endpoint_range_of h) (endpoint_count h) ≡ endpoints_end h
  unfolding endpoints_end
  end_is = refl

  pub apart : Apart 0 128 (mode_cells s)
  unfolding mode_cells
  apart =
      let r = room h f.partitions_low f.enough in
      let c = component_from_is h f.partitions_low f.enough in
      let from = from_is s.partitions in
      (omega arith, found.0)
      below (omega arith, omega (arith, f.partitions_low, f.partitions_most))
      below (omega arith, index_lt s.partitions s.index f.index_in)
      below (omega arith, selector_lt s.partitions s.selector f.selector_in_lem)
      below (omega arith, mod-lt (modes_code h) (pow_pos 4))
      below (omega arith, endpoints<)
      below (omega (arith, end_is), pow_pos (component_from h - endpoints_end h))
      below (omega arith, component_lt s.planes s.component f.limits.planes_low f.limits.planes_most f.component_in)
      below (omega arith, shr_lt (extra_bits s.partitions s.selector) 4 code<)
      below (omega arith, reverse_lt (weight_bits (sheet_grid s)) (weight_stream s))
      below omega arith

  pub block_lt : b < 2 ^ 128
  block_lt = laid_lt 128 (mode_cells s) apart

  -- cell i is read at its place
  pub at : (i : ℕ) → i < length (mode_cells s)
      → field b (get_or (mode_cells s) i (cell 0 0 0)).place (get_or (mode_cells s) i (cell 0 0 0)).width ≡ (get_or (mode_cells s) i (cell 0 0 0)).value
  at = laid_at 128 (mode_cells s) apart

  -- ---- the settings

  mode_is : mode_at fp b ≡ Grid (sheet_grid s)
  unfolding mode_at mode_cells
  mode_is = ap (block_mode_in (is_volume fp)) (at 0 (omega arith)) ∙ found.1

  -- 02, h: of two modes "the writer the smaller mode number"
  pub mode_least : (m : ℕ) → m < 2048 → block_mode_in (is_volume fp) m ≡ Grid (sheet_grid s) → field b 0 11 ≤ m
  unfolding mode_cells
  mode_least m l e = rw (at 0 (omega arith)) (least_mode (sheet_grid s) _ f.found m l (rw f.deep e))

  partitions_is : partitions_at b ≡ s.partitions
  unfolding partitions_at mode_cells
  partitions_is = ap (λ (x : ℕ). x + 1) (at 1 (omega arith)) ∙ omega (arith, f.partitions_low)

  index_is : index_at b s.partitions ≡ s.index
  unfolding index_at mode_cells
  index_is = at 2 (omega arith)

  selector_is : selector_at b s.partitions ≡ s.selector
  unfolding selector_at mode_cells
  selector_is = at 3 (omega arith)

  base_is : base_at b s.partitions ≡ modes_code h % 2 ^ 4
  unfolding base_at mode_cells
  base_is = at 4 (omega arith)

  component_is : component_at b (sheet_grid s) s.partitions s.selector ≡ s.component
  unfolding component_at mode_cells component_from
  component_is = at 7 (omega arith)

  extra_is : extra_at b (sheet_grid s) s.partitions s.selector ≡ modes_code h / 2 ^ 4
  unfolding extra_at mode_cells
  extra_is = at 8 (omega arith)

  modes_are : padded 4 s.partitions (mode_of s.partitions s.selector
      (extra_at b (sheet_grid s) s.partitions s.selector * 2 ^ 4 + base_at b s.partitions)) 0 ≡ s.modes
  modes_are =
      ap (λ (c : ℕ). padded 4 s.partitions (mode_of s.partitions s.selector c) 0)
      (ap₂ (λ (x y : ℕ). x * 2 ^ 4 + y) extra_is base_is ∙ split (modes_code h) 4)
      ∙ padded_back s.modes _ 4 s.partitions 15 z.modes_4 f.modes_in
      (λ i l m. code_back h i m (all_fit h f.selected (alone s.partitions s.selector f.selector_in_lem f.partitions_low) i m))

  with_is : header_with b (sheet_grid s) s.partitions s.selector ≡ h
  unfolding header_with
  with_is = λ i. record {
    grid = sheet_grid s;
    component = component_is i;
    partitions = s.partitions;
    index = index_is i;
    selector = s.selector;
    modes = modes_are i;
  }

  pub settings_are : header_at fp b ≡ h
  settings_are =
      header_is fp b ∙ rw (mode_is, partitions_is, selector_is) with_is

  -- ---- the numbers

  endpoint_stream_lem : field b (endpoints_from s.partitions) (range_bits (endpoint_range_of h) (endpoint_count h)) ≡ endpoint_stream s
  unfolding mode_cells
  endpoint_stream_lem = at 5 (omega arith)

  endpoints_are : (i : ℕ) → i < 18 → endpoint_at b h i ≡ endpoint_in s i
  unfolding endpoint_stream
  endpoints_are i l =
      endpoint_is b h i
      ∙ packed_back 18 (endpoint_count h) (endpoint_range_of h) s.endpoints z.endpoints_18 f.numbers_most f.endpoints_in _ endpoint_stream_lem i l

  weight_stream_lem : field (reverse 128 b) 0 (weight_bits (sheet_grid s)) ≡ weight_stream s
  unfolding mode_cells
  weight_stream_lem =
      reverse_top 128 (weight_bits (sheet_grid s)) b (omega (arith, f.bits_most)) block_lt
      ∙ ap (reverse (weight_bits (sheet_grid s))) (at 9 (omega arith)) ∙ reverse_reverse (weight_bits (sheet_grid s)) (weight_stream s) weights<

  weights_are : (i : ℕ) → i < 64 → weight_at b h i ≡ weight_in s i
  unfolding weight_stream
  weights_are i l =
      weight_is b h i
      ∙ packed_back 64 (weight_count (sheet_grid s)) s.range s.weights z.weights_64 f.count_most f.weights_in _ weight_stream_lem i l

  -- ---- smallest codes, and spare bits

  pub endpoint_codes : Smallest (encoding_at (endpoint_range_of h)) (bits_at (endpoint_range_of h)) (endpoint_count h) (endpoint_in s)
      (sequence_at (encoding_at (endpoint_range_of h)) (bits_at (endpoint_range_of h)) b (endpoints_from s.partitions) (endpoint_count h))
  unfolding sequence_at range_bits endpoint_stream
  endpoint_codes = smallest 18 (endpoint_count h) (endpoint_range_of h) s.endpoints z.endpoints_18 f.numbers_most f.endpoints_in _ endpoint_stream_lem

  pub weight_codes : Smallest (encoding_at s.range) (bits_at s.range) (weight_count (sheet_grid s)) (weight_in s)
      (sequence_at (encoding_at s.range) (bits_at s.range) (reverse 128 b) 0 (weight_count (sheet_grid s)))
  unfolding sequence_at weight_bits range_bits weight_stream
  weight_codes = smallest 64 (weight_count (sheet_grid s)) s.range s.weights z.weights_64 f.count_most f.weights_in _ weight_stream_lem

  pub spare_zero : field b (endpoints_end h) (component_from h - endpoints_end h) ≡ 0
  unfolding mode_cells
  spare_zero = at 6 (omega arith)

  -- ---- the whole

  not_void : is_void (mode_at fp b) ≡ false
  not_void = rw mode_is

  with_numbers : mode_block h (endpoint_at b h) (weight_at b h) ≡ s
  unfolding mode_block
  with_numbers =
      let m : 0 ≡ s.mark = sym f.mark_0 in
      let k : pick (some_hdr h) 1 0 ≡ s.hdr = mark_back s.hdr (some_hdr h) f.hdr_most f.marked in
      let c = zeros_back s.colours 4 z.colours_4 f.colours_0 in
      let x = zeros_back s.extents 6 z.extents_6 f.extents_0 in
      let e = stored_back s.endpoints (endpoint_at b h) 18 z.endpoints_18 endpoints_are in
      let w = stored_back s.weights (weight_at b h) 64 z.weights_64 weights_are in
      by_fields m k c x refl refl refl refl refl refl refl refl refl refl e w

  pub mode_back : read_block fp b ≡ s
  mode_back = read_mode fp b not_void ∙ rw settings_are with_numbers

  pub mode_faultless : None (mode_refusals fp s) → fault_of true fp b ≡ 0
  unfolding mode_refusals hdr_refused
  mode_faultless n =
      let r = none_at (mode_refusals fp s) n in
      mode_no_fault fp b not_void (rw mode_is)
      (subst (λ (k : BlockHeader). None (mode_faults fp k)) (sym settings_are) (r 16, (r 17, (r 18, (r 19, (r 21, (r 22, (refl, tt))))))))
