-- The numbers of an acceptable symbolic block fit the types of the struct.
-- Assumes nothing.
use mathlib.Core.Path.{◌≡◌, ap}
use mathlib.Core.Bool.{Bool, true, false}
use mathlib.Core.List.{List}
use Prim.Native.Nat.{ℕ, ◌*◌, ◌≤◌}
use native.Mathlib.Decide.{dec_lt}
use native.Mathlib.Omega.{arith}
use lib.Dec.{T, eqb}
use lib.ListN.{length, get_or, get_or-eq_default}
use borrow.Author.Tests.{ltb-false}
use Rattle.encoding.specs.declared.Stored.{Stored}
use Rattle.quantization.specs.Ranges.{most_at}
use Rattle.quantization.proofs.Ranges.{most_le}
use Rattle.integer_sequence.specs.Reading.{stored}
use Rattle.footprint.specs.Footprint.{is_volume}
use Rattle.void_extent.specs.Layout.{axes_of, extent_most}
use Rattle.block_header.specs.Counts.{weight_count, endpoint_count, endpoint_range_of}
use Rattle.symbolic_block.specs.declared.SymbolicBlock.{SymbolicBlock}
use Rattle.symbolic_block.specs.Fields.{sheet_grid, header_of, colour_in, extent_in, mode_in, stored_in, endpoint_in, weight_in, Sized, Typed}
use Rattle.symbolic_block.specs.Refusals.{within, some_in_use, void_refusals}
use Rattle.laws.proofs.Reasons.{None, none_at}
use Rattle.symbolic_block.proofs.Lists.{not_not, within_used, within_unused}
use Rattle.symbolic_block.proofs.Room.{pick_le}
use Rattle.symbolic_block.proofs.Fine.{Fine}
use Rattle.symbolic_block.proofs.Void.{hdr_in, colours_in, extents_in}

-- numbers within their limits, and 0 past the last
module _ (N n most : ℕ) (x : ℕ → ℕ) (t : T (within N n most x)) where
  bounded : ((i : ℕ) → N ≤ i → x i ≡ 0) → (i : ℕ) → x i ≤ most
  bounded past i = elim (dec_lt i N) [
    | yes l ↦ elim (dec_lt i n) [ yes m ↦ within_used N n most x t i l m | no m ↦ omega (arith, within_unused N n most x t i l (omega arith)) ]
    | no l ↦ omega (arith, past i (omega arith))
  ]

past_list : (xs : List ℕ) (N : ℕ) → length xs ≡ N → (i : ℕ) → N ≤ i → get_or xs i 0 ≡ 0
past_list xs N e i h = get_or-eq_default xs 0 {n = i} (omega arith)

past_stored : (xs : List Stored) (N : ℕ) → length xs ≡ N → (i : ℕ) → N ≤ i → stored_in xs i ≡ 0
past_stored xs N e i h = ap (λ (s : Stored). s.0) (get_or-eq_default xs (stored 0) {n = i} (omega arith))

pub mode_typed : (fp : ℕ) (s : SymbolicBlock) → Fine fp s → Sized s → Typed s
mode_typed fp s f z = record {
  mark_u8 = omega (arith, f.mark_0);
  hdr_u8 = omega (arith, f.hdr_most);
  colours_u16 = λ i. omega (arith, bounded 4 0 0 (colour_in s) f.colours_0 (past_list s.colours 4 z.colours_4) i);
  extents_u16 = λ i. omega (arith, bounded 6 0 0 (extent_in s) f.extents_0 (past_list s.extents 6 z.extents_6) i);
  width_u8 = omega (arith, f.limits.width_most);
  height_u8 = omega (arith, f.limits.height_most);
  depth_u8 = omega (arith, f.limits.depth_most);
  range_u8 = omega (arith, f.limits.range_most);
  planes_u8 = omega (arith, f.limits.planes_most);
  component_u8 = omega (arith, f.component_in, pick_le (eqb s.planes 2) 3 0 3 (omega arith) (omega arith));
  partitions_u8 = omega (arith, f.partitions_most);
  index_u16 = omega (arith, f.index_in, pick_le (eqb s.partitions 1) 0 1023 1023 (omega arith) (omega arith));
  selector_u8 = omega (arith, f.selector_in_lem, pick_le (eqb s.partitions 1) 0 3 3 (omega arith) (omega arith));
  modes_u8 = λ i. omega (arith, bounded 4 s.partitions 15 (mode_in s) f.modes_in (past_list s.modes 4 z.modes_4) i);
  endpoints_u8 = λ i.
      omega (
        arith,
        most_le (endpoint_range_of (header_of s)),
        bounded 18 (endpoint_count (header_of s)) (most_at (endpoint_range_of (header_of s))) (endpoint_in s) f.endpoints_in (past_stored s.endpoints 18 z.endpoints_18) i,
      );
  weights_u8 = λ i.
      omega (
        arith,
        most_le s.range,
        bounded 64 (weight_count (sheet_grid s)) (most_at s.range) (weight_in s) f.weights_in (past_stored s.weights 64 z.weights_64) i,
      );
}

most_extent : (volume : Bool) → extent_most volume ≤ 8191
unfolding extent_most
most_extent true = omega arith
most_extent false = omega arith

pub void_typed : (fp : ℕ) (s : SymbolicBlock) → s.mark ≡ 1 → None (void_refusals fp s) → Sized s → Typed s
unfolding void_refusals some_in_use
void_typed fp s m n z =
    let r = none_at (void_refusals fp s) n in
    record {
      mark_u8 = omega (arith, m);
      hdr_u8 = omega (arith, hdr_in fp s m n z);
      colours_u16 = λ i. omega (arith, bounded 4 4 65535 (colour_in s) (colours_in fp s m n z) (past_list s.colours 4 z.colours_4) i);
      extents_u16 = λ i. omega (arith, bounded 6 (2 * axes_of (is_volume fp)) (extent_most (is_volume fp)) (extent_in s) (extents_in fp s m n z) (past_list s.extents 6 z.extents_6) i, most_extent (is_volume fp));
      width_u8 = omega (arith, ltb-false 0 s.width (r 4));
      height_u8 = omega (arith, ltb-false 0 s.height (r 5));
      depth_u8 = omega (arith, ltb-false 0 s.depth (r 6));
      range_u8 = omega (arith, ltb-false 0 s.range (r 7));
      planes_u8 = omega (arith, ltb-false 0 s.planes (r 8));
      component_u8 = omega (arith, ltb-false 0 s.component (r 9));
      partitions_u8 = omega (arith, ltb-false 0 s.partitions (r 10));
      index_u16 = omega (arith, ltb-false 0 s.index (r 11));
      selector_u8 = omega (arith, ltb-false 0 s.selector (r 12));
      modes_u8 = λ i. omega (arith, bounded 4 0 0 (mode_in s) (not_not (within 4 0 0 (mode_in s)) (r 13)) (past_list s.modes 4 z.modes_4) i);
      endpoints_u8 = λ i.
          omega (arith, bounded 18 0 0 (endpoint_in s) (not_not (within 18 0 0 (endpoint_in s)) (r 14)) (past_stored s.endpoints 18 z.endpoints_18) i);
      weights_u8 = λ i.
          omega (arith, bounded 64 0 0 (weight_in s) (not_not (within 64 0 0 (weight_in s)) (r 15)) (past_stored s.weights 64 z.weights_64) i);
    }
