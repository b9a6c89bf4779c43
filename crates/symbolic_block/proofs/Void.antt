-- Void extents (01: solid sheets and blocks), both ways. What is written reads back by `void_extent`'s laws.
-- Assumes nothing.
use mathlib.Core.Path.{◌≡◌, refl, sym, ap, ◌∙◌}
use mathlib.Core.Bool.{Bool, true, false, not}
use Prim.Native.Nat.{ℕ, zero, suc, ◌+◌, ◌*◌, ◌^◌, ◌≤◌, ◌<◌}
use native.Mathlib.Decide.{dec_lt}
use native.Mathlib.Omega.{arith}
use lib.Dec.{T, ltb, eqb}
use lib.ListN.{length, get_or}
use borrow.Author.Tests.{ltb-false, lt-ltb, le-ltb, eq-eqb}
use Rattle.laws.specs.Choice.{pick}
use Rattle.laws.specs.Table.{tab}
use Rattle.laws.proofs.Filling.{get_or_tab, length_tab}
use Rattle.bits.specs.Field.{field}
use Rattle.bits.proofs.Fields.{field_lt, field_in}
use Rattle.integer_sequence.specs.Reading.{stored}
use Rattle.footprint.specs.Footprint.{is_volume}
use Rattle.block_mode.specs.declared.BlockMode.TheVariants.{VoidExtent}
use Rattle.block_mode.specs.Mode2D.{low_forms, high_forms, block_mode}
use Rattle.volume_mode.specs.Mode3D.{low_volume, high_volume, volume_mode}
use Rattle.volume_mode.specs.Either.{block_mode_in}
use Rattle.void_extent.specs.Layout.{axes_of, extent_width, extent_most, extent_at, colour_at, bad_extents, bad_fixed, bad_void_extent}
use Rattle.void_extent.specs.Writing.{void_cells}
use Rattle.void_extent.proofs.Extents.{same_extents, extent_le, extent_none}
use Rattle.void_extent.proofs.Written as laid_out
use Rattle.block_fault.specs.Bits.{mode_at, is_void}
use Rattle.block_fault.specs.Faults.{fault_of}
use Rattle.symbolic_block.specs.declared.SymbolicBlock.{SymbolicBlock}
use Rattle.symbolic_block.specs.Fields.{colour_in, extent_in, mode_in, endpoint_in, weight_in, Sized}
use Rattle.symbolic_block.specs.Refusals.{within, unknown_footprint, bad_hdr, bad_colours, bad_extent_fields, some_in_use, void_refusals}
use Rattle.bits.specs.Cells.{laid}
use Rattle.bits.proofs.Laid.{Apart}
use Rattle.symbolic_block.specs.Reading.{void_block, read_block}
use Rattle.laws.proofs.Reasons.{None, ◌also◌, none_at, either_none}
use Rattle.laws.specs.Reasons.{reason_at}
use Rattle.symbolic_block.proofs.Same.{by_fields}
use Rattle.symbolic_block.proofs.Lists.{not_not, is_within, within_used, within_unused, all_within, tab_back, zeros_back, stored_zeros_back, zeros_unused, stored_zeros_unused}
use Rattle.symbolic_block.proofs.Opened.{void_no_fault, no_void_fault, read_void}

-- a mode with the nine bits of a void extent, in a volume and in a flat block
void_mode : (volume : Bool) (m : ℕ) → field m 0 9 ≡ 0b111111100 → block_mode_in volume m ≡ VoidExtent
unfolding field block_mode_in volume_mode block_mode
void_mode true m e = ap (λ (b : Bool). pick b VoidExtent (pick (eqb (field m 0 2) 0) (high_volume m) (low_volume m))) (eq-eqb (field m 0 9) 0b111111100 e)
void_mode false m e = ap (λ (b : Bool). pick b VoidExtent (pick (eqb (field m 0 2) 0) (high_forms m) (low_forms m))) (eq-eqb (field m 0 9) 0b111111100 e)

-- extents within their limits fit their bits: the first pairs by the largest, those that are not there are 0
extent_fits : (volume : Bool) (x : ℕ → ℕ) → T (within 6 (2 * axes_of volume) (extent_most volume) x) → (i : ℕ) → i < 6 → x i < 2 ^ extent_width volume i
unfolding axes_of extent_most extent_width
extent_fits true x t i h = omega (arith, within_used 6 6 511 x t i h h)
extent_fits false x t i h = elim (dec_lt i 4) [
  | yes l ↦ rw (lt-ltb i 4 l) (omega (arith, within_used 6 4 8191 x t i h l))
  | no l ↦ rw (le-ltb i 4 (omega arith)) (omega (arith, within_unused 6 4 8191 x t i h (omega arith)))
]

-- ---- written and read back

module _ (fp : ℕ) (s : SymbolicBlock) (m : s.mark ≡ 1) (n : None (void_refusals fp s)) (z : Sized s) where
  abbrev v : Bool
  v = is_volume fp

  abbrev b : ℕ
  b = laid (void_cells v s.hdr (extent_in s) (colour_in s))

  r : (i : ℕ) → (reason_at (void_refusals fp s) i).holds ≡ false
  r = none_at (void_refusals fp s) n

  pub hdr_in : s.hdr ≤ 1
  unfolding void_refusals bad_hdr
  hdr_in = ltb-false 1 s.hdr (r 1)

  pub colours_in : T (within 4 4 65535 (colour_in s))
  unfolding void_refusals bad_colours
  colours_in = not_not (within 4 4 65535 (colour_in s)) (r 2)

  pub extents_in : T (within 6 (2 * axes_of v) (extent_most v) (extent_in s))
  unfolding void_refusals bad_extent_fields
  extents_in = not_not (within 6 (2 * axes_of v) (extent_most v) (extent_in s)) (r 3)

  colour_lt : (i : ℕ) → i < 4 → colour_in s i < 2 ^ 16
  colour_lt i h = omega (arith, within_used 4 4 65535 (colour_in s) colours_in i h h)

  extent_lt : (i : ℕ) → i < 6 → extent_in s i < 2 ^ extent_width v i
  extent_lt = extent_fits v (extent_in s) extents_in

  pub apart : Apart 0 128 (void_cells v s.hdr (extent_in s) (colour_in s))
  apart = laid_out.apart v s.hdr (extent_in s) (colour_in s) hdr_in extent_lt colour_lt

  pub block_lt : b < 2 ^ 128
  block_lt = laid_out.block_lt v s.hdr (extent_in s) (colour_in s) hdr_in extent_lt colour_lt

  hdr_is : field b 9 1 ≡ s.hdr
  hdr_is = laid_out.hdr_is v s.hdr (extent_in s) (colour_in s) hdr_in extent_lt colour_lt

  extents_are : (i : ℕ) → i < 6 → extent_at v b i ≡ extent_in s i
  extents_are = laid_out.extents_are v s.hdr (extent_in s) (colour_in s) hdr_in extent_lt colour_lt

  colours_are : (i : ℕ) → i < 4 → colour_at b i ≡ colour_in s i
  colours_are = laid_out.colours_are v s.hdr (extent_in s) (colour_in s) hdr_in extent_lt colour_lt

  is_void_lem : is_void (mode_at fp b) ≡ true
  unfolding mode_at
  is_void_lem = rw (void_mode v (field b 0 11) (field_in b 0 11 0 9 (omega arith) ∙ laid_out.nine_are v s.hdr (extent_in s) (colour_in s) hdr_in extent_lt colour_lt))

  -- an unused field is 0
  unused : (x : ℕ) → ltb 0 x ≡ false → 0 ≡ x
  unused x h = omega (arith, ltb-false 0 x h)

  with_fields : void_block (field b 9 1) (colour_at b) (extent_at v b) ≡ s
  unfolding void_block void_refusals some_in_use
  with_fields =
      let e0 : 1 ≡ s.mark = sym m in
      let e1 = tab_back s.colours (colour_at b) 0 4 z.colours_4 (λ i h. sym (colours_are i h)) in
      let e2 = tab_back s.extents (extent_at v b) 0 6 z.extents_6 (λ i h. sym (extents_are i h)) in
      let e3 = unused s.width (r 4) in
      let e4 = unused s.height (r 5) in
      let d = unused s.depth (r 6) in
      let e5 = unused s.range (r 7) in
      let e6 = unused s.planes (r 8) in
      let e7 = unused s.component (r 9) in
      let e8 = unused s.partitions (r 10) in
      let e9 = unused s.index (r 11) in
      let e10 = unused s.selector (r 12) in
      let e11 = zeros_back s.modes 4 z.modes_4 (not_not (within 4 0 0 (mode_in s)) (r 13)) in
      let e12 = stored_zeros_back s.endpoints 18 z.endpoints_18 (not_not (within 18 0 0 (endpoint_in s)) (r 14)) in
      let e13 = stored_zeros_back s.weights 64 z.weights_64 (not_not (within 64 0 0 (weight_in s)) (r 15)) in
      by_fields e0 hdr_is e1 e2 e3 e4 d e5 e6 e7 e8 e9 e10 e11 e12 e13

  pub void_back : read_block fp b ≡ s
  void_back = read_void fp b is_void_lem ∙ with_fields

  pub void_faultless : fault_of true fp b ≡ 0
  unfolding void_refusals
  void_faultless = void_no_fault fp b is_void_lem (laid_out.void_good v s.hdr (extent_in s) (colour_in s) hdr_in extent_lt colour_lt (r 16))

-- ---- read

module _ (fp B : ℕ) where
  abbrev volume : Bool
  volume = is_volume fp

  abbrev read : SymbolicBlock
  read = void_block (field B 9 1) (colour_at B) (extent_at volume B)

  pub void_sized : Sized read
  unfolding void_block
  void_sized = record {
    colours_4 = length_tab (colour_at B) 4;
    extents_6 = length_tab (extent_at volume B) 6;
    modes_4 = length_tab (λ i. 0) 4;
    endpoints_18 = length_tab (λ i. stored 0) 18;
    weights_64 = length_tab (λ i. stored 0) 64;
  }

  colours_within : T (within 4 4 65535 (λ i. get_or (tab (colour_at B) 4) i 0))
  unfolding colour_at
  colours_within =
      all_within 4 4 65535 _ (λ i h l. rw (get_or_tab (colour_at B) 4 i 0 h) (omega (arith, field_lt B (64 + 16 * i) 16))) (λ i h l. omega arith)

  extents_within : T (within 6 (2 * axes_of volume) (extent_most volume) (λ i. get_or (tab (extent_at volume B) 6) i 0))
  extents_within =
      all_within 6 (2 * axes_of volume) (extent_most volume) _ (λ i h l. rw (get_or_tab (extent_at volume B) 6 i 0 h) (extent_le volume B i l))
      (λ i h l. get_or_tab (extent_at volume B) 6 i 0 h ∙ extent_none volume B i l h)

  pub void_accepted : fp ≤ 23 → is_void (mode_at fp B) ≡ true → fault_of true fp B ≡ 0 → None (void_refusals fp read)
  unfolding void_refusals void_block unknown_footprint bad_hdr bad_colours bad_extent_fields some_in_use bad_void_extent
  void_accepted low v e =
      let bad : bad_extents volume (extent_at volume B) ≡ false = (either_none (bad_fixed volume B) (bad_extents volume (extent_at volume B)) (no_void_fault fp B v e)).1 in
      le-ltb 23 fp low
      also le-ltb 1 (field B 9 1) (omega (arith, field_lt B 9 1))
      also is_within (within 4 4 65535 (λ i. get_or (tab (colour_at B) 4) i 0)) colours_within
      also is_within (within 6 (2 * axes_of volume) (extent_most volume) (λ i. get_or (tab (extent_at volume B) 6) i 0)) extents_within
      also refl also refl also refl also refl also refl also refl also refl also refl also refl
      also zeros_unused 4
      also stored_zeros_unused 18
      also stored_zeros_unused 64
      also (same_extents volume (extent_in read) (extent_at volume B) (λ i h. get_or_tab (extent_at volume B) 6 i 0 h) ∙ bad)
      also tt
