-- What an acceptable mode sheet is.
-- Assumes nothing.
use Rattle.std.specs.Prelude.{None, Option, Some}
use mathlib.Core.Path.{◌≡◌, refl, subst}
use mathlib.Core.Bool.{Bool, true, false, not}
use Prim.Native.Nat.{ℕ, ◌+◌, ◌*◌, ◌/◌, ◌≤◌}
use native.Mathlib.Omega.{arith}
use lib.Dec.{T, ltb, eqb}
use borrow.Author.Tests.{ltb-false, lt-ltb}
use Rattle.laws.specs.Choice.{pick, both}
use Rattle.quantization.specs.Ranges.{most_at}
use Rattle.block_mode.specs.Back2D.{Limits}
use Rattle.footprint.specs.Footprint.{is_volume}
use Rattle.volume_mode.specs.Either.{is_deep, block_mode_of}
use Rattle.block_header.specs.Counts.{weight_count, weight_bits, endpoint_count, bits_left, endpoint_range_of}
use Rattle.block_header.specs.Reasons.{too_many_weights, weight_bits_outside, too_many_endpoints, too_few_endpoint_bits, some_hdr, hdr_refused}
use Rattle.symbolic_block.specs.declared.SymbolicBlock.{SymbolicBlock}
use Rattle.symbolic_block.specs.Fields.{sheet_grid, header_of, is_marked, colour_in, extent_in, mode_in, endpoint_in, weight_in}
use Rattle.symbolic_block.specs.Refusals.{within, outside, is_no_mode, unknown_footprint, bad_mark, bad_hdr, bad_width, bad_height, bad_grid_depth, bad_range, bad_planes, bad_component, bad_partitions, bad_index, bad_selector, bad_modes, some_in_use, no_block_mode, modes_misfit, bad_endpoints, bad_weights, marked_without, mode_refusals}
use Rattle.symbolic_block.specs.Writing.{mode_number}
use Rattle.laws.proofs.Reasons as reasons
use Rattle.laws.proofs.Reasons.{none_at, either_none}
use Rattle.laws.specs.Reasons.{reason_at}
use Rattle.symbolic_block.proofs.Lists.{not_not}

pub record Fine (fp : ℕ) (s : SymbolicBlock) : Type 0 where
  pub footprint : fp ≤ 23
  pub mark_0 : s.mark ≡ 0
  pub hdr_most : s.hdr ≤ 1
  pub marked : is_marked s ≡ some_hdr (header_of s)
  pub limits : Limits (sheet_grid s)
  -- a volume has a deep grid, a flat footprint has not
  pub deep : is_deep (sheet_grid s) ≡ is_volume fp
  pub component_in : s.component ≤ pick (eqb s.planes 2) 3 0
  pub partitions_low : 1 ≤ s.partitions
  pub partitions_most : s.partitions ≤ 4
  pub index_in : s.index ≤ pick (eqb s.partitions 1) 0 1023
  pub selector_in_lem : s.selector ≤ pick (eqb s.partitions 1) 0 3
  pub modes_in : T (within 4 s.partitions 15 (mode_in s))
  pub colours_0 : T (within 4 0 0 (colour_in s))
  pub extents_0 : T (within 6 0 0 (extent_in s))
  pub found : block_mode_of (sheet_grid s) ≡ Some (mode_number (block_mode_of (sheet_grid s)))
  pub count_most : weight_count (sheet_grid s) ≤ 64
  pub bits_most : weight_bits (sheet_grid s) ≤ 96
  pub selected : modes_misfit (header_of s) ≡ false
  pub numbers_most : endpoint_count (header_of s) ≤ 18
  pub enough : (13 * endpoint_count (header_of s) + 4) / 5 ≤ bits_left (header_of s)
  pub endpoints_in : T (within 18 (endpoint_count (header_of s)) (most_at (endpoint_range_of (header_of s))) (endpoint_in s))
  pub weights_in : T (within 64 (weight_count (sheet_grid s)) (most_at s.range) (weight_in s))

a_mode : (x : Option ℕ) → is_no_mode x ≡ false → x ≡ Some (mode_number x)
a_mode (Some m) e = refl
a_mode None e = let z : ◌≡◌ {A = Bool} true false = e in absurd (subst T z tt)

-- where neither 20 nor 35 holds, the HDR mark is set exactly when some partition's mode is HDR
same_mark : (m h : Bool) → both (not m) h ≡ false → both m (not h) ≡ false → m ≡ h
same_mark true true p q = refl
same_mark true false p q = let z : ◌≡◌ {A = Bool} true false = q in absurd (subst T z tt)
same_mark false true p q = let z : ◌≡◌ {A = Bool} true false = p in absurd (subst T z tt)
same_mark false false p q = refl

-- a depth in its limits
record Deep (volume : Bool) (d : ℕ) : Type 0 where
  low : 1 ≤ d
  most : d ≤ 6
  deep : ltb 1 d ≡ volume

depth_in : (volume : Bool) (d : ℕ) → pick volume (outside 2 6 d) (outside 1 1 d) ≡ false → Deep volume d
depth_in true d e =
    let k = either_none (ltb d 2) (ltb 6 d) e in
    let l = ltb-false d 2 k.0 in
    record { low = omega arith; most = ltb-false 6 d k.1; deep = lt-ltb 1 d l }
depth_in false d e =
    let k = either_none (ltb d 1) (ltb 1 d) e in
    record { low = ltb-false d 1 k.0; most = omega (arith, ltb-false 1 d k.1); deep = k.1 }

-- reason i of a mode sheet does not hold
abbrev Not : ℕ → SymbolicBlock → ℕ → Type 0
Not fp s i = (reason_at (mode_refusals fp s) i).holds ≡ false

pub fine : (fp : ℕ) (s : SymbolicBlock) → (s.mark ≡ 1 → ⊥) → reasons.None (mode_refusals fp s) → Fine fp s
unfolding mode_refusals is_deep unknown_footprint bad_mark bad_hdr bad_width bad_height bad_grid_depth bad_range bad_planes bad_component bad_partitions bad_index bad_selector bad_modes some_in_use no_block_mode bad_endpoints bad_weights too_many_weights weight_bits_outside too_many_endpoints too_few_endpoint_bits hdr_refused marked_without
fine fp s m n =
    let at = none_at (mode_refusals fp s) n in
    let w = either_none (ltb s.width 2) (ltb 12 s.width) (at 3) in
    let h = either_none (ltb s.height 2) (ltb 12 s.height) (at 4) in
    let d = depth_in (is_volume fp) s.depth (at 5) in
    let p = either_none (ltb s.planes 1) (ltb 2 s.planes) (at 7) in
    let q = either_none (ltb s.partitions 1) (ltb 4 s.partitions) (at 9) in
    let b = either_none (ltb (weight_bits (sheet_grid s)) 24) (ltb 96 (weight_bits (sheet_grid s))) (at 18) in
    record {
      footprint = ltb-false 23 fp (at 0);
      mark_0 = omega (arith, m, ltb-false 1 s.mark (at 1));
      hdr_most = ltb-false 1 s.hdr (at 2);
      marked = same_mark (is_marked s) (some_hdr (header_of s)) (at 23) (at 26);
      limits = record {
        width_low = ltb-false s.width 2 w.0;
        width_most = ltb-false 12 s.width w.1;
        height_low = ltb-false s.height 2 h.0;
        height_most = ltb-false 12 s.height h.1;
        depth_low = d.low;
        depth_most = d.most;
        range_most = ltb-false 11 s.range (at 6);
        planes_low = ltb-false s.planes 1 p.0;
        planes_most = ltb-false 2 s.planes p.1;
      };
      deep = d.deep;
      component_in = ltb-false (pick (eqb s.planes 2) 3 0) s.component (at 8);
      partitions_low = ltb-false s.partitions 1 q.0;
      partitions_most = ltb-false 4 s.partitions q.1;
      index_in = ltb-false (pick (eqb s.partitions 1) 0 1023) s.index (at 10);
      selector_in_lem = ltb-false (pick (eqb s.partitions 1) 0 3) s.selector (at 11);
      modes_in = not_not (within 4 s.partitions 15 (mode_in s)) (at 12);
      colours_0 = not_not (within 4 0 0 (colour_in s)) (at 13);
      extents_0 = not_not (within 6 0 0 (extent_in s)) (at 14);
      found = a_mode (block_mode_of (sheet_grid s)) (at 15);
      count_most = ltb-false 64 (weight_count (sheet_grid s)) (at 17);
      bits_most = ltb-false 96 (weight_bits (sheet_grid s)) b.1;
      selected = at 20;
      numbers_most = ltb-false 18 (endpoint_count (header_of s)) (at 21);
      enough = ltb-false (bits_left (header_of s)) ((13 * endpoint_count (header_of s) + 4) / 5) (at 22);
      endpoints_in = not_not (within 18 (endpoint_count (header_of s)) (most_at (endpoint_range_of (header_of s))) (endpoint_in s)) (at 24);
      weights_in = not_not (within 64 (weight_count (sheet_grid s)) (most_at s.range) (weight_in s)) (at 25);
    }
