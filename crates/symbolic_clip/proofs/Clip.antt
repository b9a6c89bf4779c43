-- A symbolic block with 255 for each number above it in a byte's field: the same refusal, but for endpoint numbers above 255.
-- Assumes nothing.
use mathlib.Core.Path.{◌≡◌, refl, sym, ap, ◌∙◌, subst}
use mathlib.Core.Bool.{Bool, true, false, not}
use mathlib.Core.List.{List, [], ◌∷◌}
use Prim.Native.Nat.{ℕ, zero, suc, ◌≤◌, ◌<◌, min}
use native.Mathlib.Decide.{dec_lt}
use native.Mathlib.Omega.{arith}
use lib.Dec.{T, ltb, leb, eqb, ltb→lt}
use borrow.Author.Tests.{lt-ltb, le-ltb, eq-eqb, ne_eqb, le-leb, lt-leb, ltb-true, ltb-false, eqb-true, eqb-false}
use Rattle.laws.specs.Choice.{pick, both, either, all}
use Rattle.laws.specs.Table.{tab}
use Rattle.laws.proofs.Computed.{each, both_left, both_right}
use Rattle.laws.proofs.Filling.{get_or_tab}
use Rattle.quantization.specs.Ranges.{most_at}
use Rattle.quantization.proofs.Ranges.{most_le, weight_most_le}
use Rattle.integer_sequence.specs.Reading.{stored}
use Rattle.footprint.specs.Footprint.{is_volume}
use Rattle.block_mode.specs.declared.WeightGrid.{WeightGrid}
use Rattle.block_header.specs.declared.BlockHeader.{BlockHeader}
use Rattle.block_header.specs.Counts.{weight_count, endpoint_count, endpoint_range_of}
use Rattle.block_header.specs.Reasons.{some_hdr, grid_reasons, endpoint_reasons}
use Rattle.block_header.specs.inner.Stages.{endpoint_fault}
use Rattle.laws.specs.Reasons.{Reason, when, first_of}
use Rattle.symbolic_block.specs.declared.SymbolicBlock.{SymbolicBlock}
use Rattle.symbolic_block.specs.Fields.{sheet_grid, header_of, is_marked, mode_in, endpoint_in, weight_in, Sized}
use Rattle.symbolic_block.specs.Refusals.{within, outside, unknown_footprint, bad_mark, bad_hdr, bad_width, bad_height, bad_grid_depth, bad_range, bad_planes, bad_component, bad_partitions, bad_index, bad_selector, bad_modes, bad_colours, bad_extent_fields, some_in_use, modes_misfit, bad_endpoints, bad_weights, marked_without, mode_refusals, void_refusals, refusals, refusal_of}
use Rattle.laws.proofs.Reasons.{none_at, first_none, either_none}
use Rattle.symbolic_block.proofs.Lists.{not_not, stored_at, tab_back, stored_back, within_used, within_unused}
use Rattle.symbolic_block.proofs.Room.{pick_le}
use Rattle.symbolic_block.proofs.Opened.{refusal_is, refusals_void, refusals_mode}
use Rattle.symbolic_block.proofs.Demand.{typed}
use Rattle.symbolic_refusal.specs.inner.Stages.{or_else, or34, bad_grid, bad_partitioning, bad_lists, bad_fields, field_reasons, number_reasons}
use Rattle.symbolic_refusal.proofs.Laws.{mode_stages}
use Rattle.symbolic_calls.specs.Writing.{wrote_nothing, writing_of}
use Rattle.symbolic_calls.proofs.Laws.{refused, told}

-- ---- tests of a clipped number

module _ (m x : ℕ) where
  pub above : m < 255 → ltb m (min x 255) ≡ ltb m x
  above h = elim (dec_lt m x) [
    | yes p ↦ lt-ltb m (min x 255) (omega arith) ∙ sym (lt-ltb m x p)
    | no p ↦ le-ltb m (min x 255) (omega arith) ∙ sym (le-ltb m x (omega arith))
  ]

  pub below : m ≤ 255 → ltb (min x 255) m ≡ ltb x m
  below h = elim (dec_lt x m) [
    | yes p ↦ lt-ltb (min x 255) m (omega arith) ∙ sym (lt-ltb x m p)
    | no p ↦ le-ltb (min x 255) m (omega arith) ∙ sym (le-ltb x m (omega arith))
  ]

  pub within_one : m < 255 → leb (min x 255) m ≡ leb x m
  within_one h = elim (dec_lt m x) [
    | yes p ↦ lt-leb (min x 255) m (omega arith) ∙ sym (lt-leb x m p)
    | no p ↦ le-leb (min x 255) m (omega arith) ∙ sym (le-leb x m (omega arith))
  ]

  pub equal : m < 255 → eqb (min x 255) m ≡ eqb x m
  equal h = go (eqb x m) refl where
    go : (b : Bool) → eqb x m ≡ b → eqb (min x 255) m ≡ eqb x m
    go true e = let q : x ≡ m = eqb-true x m e in eq-eqb (min x 255) m (omega arith) ∙ sym e
    go false e = ne_eqb (min x 255) m (λ q. eqb-false x m e (omega arith)) ∙ sym e

  -- with a limit of 255 the clipped number alone does not tell
  pub within_255 : m ≤ 255 → leb x m ≡ both (leb (min x 255) m) (leb x 255)
  within_255 h = elim (dec_lt 255 x) [
    | yes p ↦ rw (lt-leb x 255 p) (lt-leb x m (omega arith) ∙ sym (nothing (leb (min x 255) m)))
    | no p ↦ let q : min x 255 ≡ x = omega arith in rw (q, le-leb x 255 (omega arith)) (sym (only (leb x m)))
  ]
    where
      nothing : (a : Bool) → both a false ≡ false
      nothing true = refl
      nothing false = refl

      only : (a : Bool) → both a true ≡ a
      only true = refl
      only false = refl

-- ---- tests of lists

all_same : (f g : ℕ → Bool) (n : ℕ) → ((k : ℕ) → k < n → f k ≡ g k) → all f n ≡ all g n
all_same f g zero h = refl
all_same f g (suc n) h = rw (h n (omega arith), all_same f g n (λ k l. h k (omega arith)))

all_both : (f g : ℕ → Bool) (n : ℕ) → all (λ k. both (f k) (g k)) n ≡ both (all f n) (all g n)
all_both f g zero = refl
all_both f g (suc n) = rw (all_both f g n) (swap (f n) (g n) (all f n) (all g n)) where
  swap : (a b c d : Bool) → both (both a b) (both c d) ≡ both (both a c) (both b d)
  swap true true c d = refl
  swap true false true d = refl
  swap true false false d = refl
  swap false b c d = refl

pub all_false : (f : ℕ → Bool) (n k : ℕ) → k < n → f k ≡ false → all f n ≡ false
all_false f n k h e = go (all f n) refl where
  go : (b : Bool) → all f n ≡ b → all f n ≡ false
  go true q = absurd (subst T e (each f n (subst T (sym q) tt) k h))
  go false q = q

all_true : (f : ℕ → Bool) (n : ℕ) → ((k : ℕ) → k < n → f k ≡ true) → all f n ≡ true
all_true f zero h = refl
all_true f (suc n) h = rw (h n (omega arith), all_true f n (λ k l. h k (omega arith)))

-- the used numbers are counted by a clipped number
within_count : (N n most : ℕ) (x : ℕ → ℕ) → N ≤ 255 → within N (min n 255) most x ≡ within N n most x
unfolding within
within_count N n most x h = all_same _ _ N (λ i l. rw (above i n (omega arith)))

module _ (N n most : ℕ) (x y : ℕ → ℕ) (clips : (i : ℕ) → i < N → y i ≡ min (x i) 255) where
  limit : (i : ℕ) → pick (ltb i n) most 0 ≤ most
  limit i = pick_le (ltb i n) most 0 most (omega arith) (omega arith)

  pub within_same : most < 255 → within N n most y ≡ within N n most x
  unfolding within
  within_same h = all_same _ _ N (λ i l. rw (clips i l) (within_one (pick (ltb i n) most 0) (x i) (omega (arith, limit i))))

  pub within_fit : most ≤ 255 → within N n most x ≡ both (within N n most y) (all (λ i. leb (x i) 255) N)
  unfolding within
  within_fit h =
      all_same _ (λ i. both (leb (y i) (pick (ltb i n) most 0)) (leb (x i) 255)) N
      (λ i l. rw (clips i l) (within_255 (pick (ltb i n) most 0) (x i) (omega (arith, limit i))))
      ∙ all_both (λ i. leb (y i) (pick (ltb i n) most 0)) (λ i. leb (x i) 255) N

-- a number within its limit is kept
kept : (m x : ℕ) → m ≤ 255 → ltb m x ≡ false → min x 255 ≡ x
kept m x h e = omega (arith, ltb-false m x e)

byte : (x : ℕ) → x < 256 → min x 255 ≡ x
byte x h = omega arith

-- ---- numbers told

not_both : (a b : Bool) → not (both a b) ≡ either (not a) (not b)
not_both true b = refl
not_both false b = refl

-- the number of the clipped one, f telling whether no endpoint number is above 255
abbrev pub with34 : Bool → ℕ → ℕ
with34 f n = pick f n (or34 n)

-- one that comes before 34 stays
or_before : (n : ℕ) → (n ≡ 0 → ⊥) → n < 35 → n ≡ or34 n
or_before n h l = rw (ne_eqb n 0 h, ne_eqb n 35 (λ q. omega (arith, q)))

-- a number that is 0 only where f holds
unless : (n : ℕ) (f : Bool) → (n ≡ 0 → f ≡ true) → n < 35 → n ≡ with34 f n
unless n true h l = refl
unless n false h l = or_before n (λ q. subst T (sym (h q)) tt) l

-- 1 or 31 is told at once
tells : (b : Bool) (n : ℕ) → pick b 1 31 ≡ or_else (pick b 1 31) n
tells true n = refl
tells false n = refl

tells_34 : (b f : Bool) → pick b 1 31 ≡ with34 f (pick b 1 31)
tells_34 true true = refl
tells_34 true false = refl
tells_34 false true = refl
tells_34 false false = refl

-- the numbers of all reasons are below k, and so is the first
abbrev below_all : ℕ → List Reason → Bool
below_all k [] = true
below_all k (r ∷ rs) = both (ltb r.told k) (below_all k rs)

first_below : (k : ℕ) (rs : List Reason) → 0 < k → T (below_all k rs) → first_of rs < k
first_below k [] h t = h
first_below k (r ∷ rs) h t = go r.holds (first_below k rs h (both_right (ltb r.told k) (below_all k rs) t)) where
  go : (b : Bool) → first_of rs < k → pick b r.told (first_of rs) < k
  go true l = ltb→lt r.told k (both_left (ltb r.told k) (below_all k rs) t)
  go false l = l

-- the last stage of a mode sheet's refusals
abbrev last : Bool → Bool → ℕ
last b k = pick b 34 (pick k 35 0)

-- all stages, the HDR mark, the first and the last given
abbrev stages : ℕ → ℕ → Bool → BlockHeader → Bool → Bool → ℕ
stages fp n hdr h b k =
    or_else n (or_else (first_of (grid_reasons fp h [])) (or_else (pick (modes_misfit h) 33 0) (or_else (endpoint_fault hdr h) (last b k))))

-- a stage before 34
passes : (f : Bool) (n m : ℕ) → n < 35 → or_else n (with34 f m) ≡ with34 f (or_else n m)
passes true n m l = refl
passes false n m l = go (eqb n 0) refl where
  go : (b : Bool) → eqb n 0 ≡ b → pick b (or34 m) n ≡ or34 (pick b m n)
  go true e = refl
  go false e = or_before n (eqb-false n 0 e) l

last_is : (a w f k : Bool) → last (either (either a (not f)) w) k ≡ with34 f (last (either a w) k)
last_is true w true k = refl
last_is true w false k = refl
last_is false true true k = refl
last_is false true false k = refl
last_is false false true k = refl
last_is false false false true = refl
last_is false false false false = refl

-- the last stage of five tells more
in_stages : (f g m e : ℕ) (a w n k : Bool) → f < 35 → g < 35 → m < 35 → e < 35
    → or_else f (or_else g (or_else m (or_else e (last (either (either a (not n)) w) k)))) ≡ with34 n (or_else f (or_else g (or_else m (or_else e (last (either a w) k)))))
in_stages f g m e a w n k hf hg hm he =
    let z = last (either a w) k in
    ap (λ (x : ℕ). or_else f (or_else g (or_else m (or_else e x)))) (last_is a w n k)
    ∙ ap (λ (x : ℕ). or_else f (or_else g (or_else m x))) (passes n e z he)
    ∙ ap (λ (x : ℕ). or_else f (or_else g x)) (passes n m (or_else e z) hm)
    ∙ ap (or_else f) (passes n g (or_else m (or_else e z)) hg)
    ∙ passes n f (or_else g (or_else m (or_else e z))) hf

-- ---- the clipped symbolic block

abbrev pub clip : SymbolicBlock → SymbolicBlock
clip s = record {
  mark = min s.mark 255;
  hdr = min s.hdr 255;
  colours = s.colours;
  extents = s.extents;
  width = min s.width 255;
  height = min s.height 255;
  depth = min s.depth 255;
  range = min s.range 255;
  planes = min s.planes 255;
  component = min s.component 255;
  partitions = min s.partitions 255;
  index = s.index;
  selector = min s.selector 255;
  modes = tab (λ i. min (mode_in s i) 255) 4;
  endpoints = tab (λ i. stored (min (endpoint_in s i) 255)) 18;
  weights = tab (λ i. stored (min (weight_in s i) 255)) 64;
}

-- no endpoint number is above 255
unfoldable pub fits : SymbolicBlock → Bool
fits s = all (λ i. leb (endpoint_in s i) 255) 18

field_below : (s : SymbolicBlock) (fp : ℕ) → first_of (field_reasons fp s) < 35
unfolding field_reasons
field_below s fp = first_below 35 (field_reasons fp s) (omega arith) tt

endpoint_below : (hdr : Bool) (h : BlockHeader) → endpoint_fault hdr h < 35
unfolding endpoint_fault
endpoint_below hdr h = first_below 35 (endpoint_reasons hdr h []) (omega arith) tt

module _ (s : SymbolicBlock) where
  mode_at_lem : (i : ℕ) → i < 4 → mode_in (clip s) i ≡ min (mode_in s i) 255
  mode_at_lem i h = get_or_tab (λ i. min (mode_in s i) 255) 4 i 0 h

  endpoint_at_lem : (i : ℕ) → i < 18 → endpoint_in (clip s) i ≡ min (endpoint_in s i) 255
  endpoint_at_lem i h = stored_at (λ i. min (endpoint_in s i) 255) 18 i h

  weight_at_lem : (i : ℕ) → i < 64 → weight_in (clip s) i ≡ min (weight_in s i) 255
  weight_at_lem i h = stored_at (λ i. min (weight_in s i) 255) 64 i h

  unused_modes : some_in_use 4 (mode_in (clip s)) ≡ some_in_use 4 (mode_in s)
  unfolding some_in_use
  unused_modes = ap not (within_same 4 0 0 (mode_in s) (mode_in (clip s)) mode_at_lem (omega arith))

  unused_endpoints : some_in_use 18 (endpoint_in (clip s)) ≡ some_in_use 18 (endpoint_in s)
  unfolding some_in_use
  unused_endpoints = ap not (within_same 18 0 0 (endpoint_in s) (endpoint_in (clip s)) endpoint_at_lem (omega arith))

  unused_weights : some_in_use 64 (weight_in (clip s)) ≡ some_in_use 64 (weight_in s)
  unfolding some_in_use
  unused_weights = ap not (within_same 64 0 0 (weight_in s) (weight_in (clip s)) weight_at_lem (omega arith))

  -- ---- a void extent

  void_same : (fp : ℕ) → first_of (void_refusals fp (clip s)) ≡ first_of (void_refusals fp s)
  unfolding void_refusals bad_hdr bad_colours bad_extent_fields
  void_same fp =
      rw (
        above 1 s.hdr (omega arith),
        above 0 s.width (omega arith),
        above 0 s.height (omega arith),
        above 0 s.depth (omega arith),
        above 0 s.range (omega arith),
        above 0 s.planes (omega arith),
        above 0 s.component (omega arith),
        above 0 s.partitions (omega arith),
        above 0 s.selector (omega arith),
        unused_modes,
        unused_endpoints,
        unused_weights,
      )

  -- an acceptable one has no endpoint number above 0
  void_fits : (fp : ℕ) → first_of (void_refusals fp s) ≡ 0 → fits s ≡ true
  unfolding fits void_refusals some_in_use
  void_fits fp e =
      let t = not_not (within 18 0 0 (endpoint_in s)) (none_at (void_refusals fp s) (first_none (void_refusals fp s) tt e) 14) in
      all_true (λ i. leb (endpoint_in s i) 255) 18 (λ i h. le-leb (endpoint_in s i) 255 (omega (arith, within_unused 18 0 0 (endpoint_in s) t i h (omega arith))))

  void_below : (fp : ℕ) → first_of (void_refusals fp s) < 35
  unfolding void_refusals
  void_below fp = first_below 35 (void_refusals fp s) (omega arith) tt

  -- ---- a mode sheet

  modes_same : bad_modes (clip s) ≡ bad_modes s
  unfolding bad_modes
  modes_same =
      ap not (within_count 4 s.partitions 15 (mode_in (clip s)) (omega arith)
      ∙ within_same 4 s.partitions 15 (mode_in s) (mode_in (clip s)) mode_at_lem (omega arith))

  component_same : bad_component (clip s) ≡ bad_component s
  unfolding bad_component
  component_same =
      rw (equal 2 s.planes (omega arith))
      (above (pick (eqb s.planes 2) 3 0) s.component (omega (arith, pick_le (eqb s.planes 2) 3 0 3 (omega arith) (omega arith))))

  selector_same : bad_selector (clip s) ≡ bad_selector s
  unfolding bad_selector
  selector_same =
      rw (equal 1 s.partitions (omega arith))
      (above (pick (eqb s.partitions 1) 0 3) s.selector (omega (arith, pick_le (eqb s.partitions 1) 0 3 3 (omega arith) (omega arith))))

  -- a depth in a volume's limits or in a flat one's
  depth_same : (fp : ℕ) → bad_grid_depth fp (clip s) ≡ bad_grid_depth fp s
  unfolding bad_grid_depth
  depth_same fp = rw (below 2 s.depth (omega arith), above 6 s.depth (omega arith), below 1 s.depth (omega arith), above 1 s.depth (omega arith))

  depth_kept : (fp : ℕ) → bad_grid_depth fp s ≡ false → min s.depth 255 ≡ s.depth
  unfolding bad_grid_depth
  depth_kept fp = go (is_volume fp) where
    go : (b : Bool) → pick b (outside 2 6 s.depth) (outside 1 1 s.depth) ≡ false → min s.depth 255 ≡ s.depth
    go true e = kept 6 s.depth (omega arith) (either_none (ltb s.depth 2) _ e).1
    go false e = kept 1 s.depth (omega arith) (either_none (ltb s.depth 1) _ e).1

  fields_same : (fp : ℕ) → bad_fields fp (clip s) ≡ bad_fields fp s
  unfolding bad_fields bad_grid bad_partitioning bad_lists bad_mark bad_hdr bad_width bad_height bad_range bad_planes bad_partitions bad_index
  fields_same fp =
      rw (
        depth_same fp,
        component_same,
        selector_same,
        modes_same,
        above 1 s.mark (omega arith),
        above 1 s.hdr (omega arith),
        below 2 s.width (omega arith),
        above 12 s.width (omega arith),
        below 2 s.height (omega arith),
        above 12 s.height (omega arith),
        above 11 s.range (omega arith),
        below 1 s.planes (omega arith),
        above 2 s.planes (omega arith),
        below 1 s.partitions (omega arith),
        above 4 s.partitions (omega arith),
        equal 1 s.partitions (omega arith),
      )

  -- where no field is refused, the settings are the same
  module _ (fp : ℕ) (z : Sized s) (n : bad_fields fp s ≡ false) where
    -- the tests one by one
    grid_none : bad_grid fp s ≡ false
    unfolding bad_fields
    grid_none = (either_none (bad_grid fp s) _ (either_none (bad_hdr s) _ (either_none (bad_mark s) _ n).1).1).0

    rest_none : either (bad_partitioning s) (bad_lists s) ≡ false
    unfolding bad_fields
    rest_none = (either_none (bad_grid fp s) _ (either_none (bad_hdr s) _ (either_none (bad_mark s) _ n).1).1).1

    partitioning_none : bad_partitioning s ≡ false
    partitioning_none = (either_none (bad_partitioning s) (bad_lists s) rest_none).0

    modes_in : T (within 4 s.partitions 15 (mode_in s))
    unfolding bad_lists bad_modes
    modes_in = not_not (within 4 s.partitions 15 (mode_in s)) (either_none (bad_modes s) _ (either_none (bad_partitioning s) (bad_lists s) rest_none).1).0

    grid_is : sheet_grid (clip s) ≡ sheet_grid s
    unfolding bad_grid bad_width bad_height bad_range bad_planes
    grid_is =
        let h = (either_none (bad_width s) _ grid_none).1 in
        let d = (either_none (bad_height s) _ h).1 in
        let r = (either_none (bad_grid_depth fp s) _ d).1 in
        rw (
          kept 12 s.width (omega arith) (either_none (ltb s.width 2) _ (either_none (bad_width s) _ grid_none).0).1,
          kept 12 s.height (omega arith) (either_none (ltb s.height 2) _ (either_none (bad_height s) _ h).0).1,
          depth_kept fp (either_none (bad_grid_depth fp s) _ d).0,
          kept 11 s.range (omega arith) (either_none (bad_range s) _ r).0,
          kept 2 s.planes (omega arith) (either_none (ltb s.planes 1) _ (either_none (bad_range s) _ r).1).1,
        )

    range_in_lem : s.range ≤ 11
    unfolding bad_grid bad_range
    range_in_lem = ltb-false 11 s.range (either_none (bad_range s) _ (either_none (bad_grid_depth fp s) _ (either_none (bad_height s) _ (either_none (bad_width s) _ grid_none).1).1).1).0

    modes_kept : tab (λ i. min (mode_in s i) 255) 4 ≡ s.modes
    modes_kept = tab_back s.modes (λ i. min (mode_in s i) 255) 0 4 z.modes_4 (λ i l. go i l (ltb i s.partitions) refl) where
      go : (i : ℕ) → i < 4 → (b : Bool) → ltb i s.partitions ≡ b → mode_in s i ≡ min (mode_in s i) 255
      go i l true q = omega (arith, within_used 4 s.partitions 15 (mode_in s) modes_in i l (ltb-true i s.partitions q))
      go i l false q = omega (arith, within_unused 4 s.partitions 15 (mode_in s) modes_in i l (ltb-false i s.partitions q))

    header_is : header_of (clip s) ≡ header_of s
    unfolding bad_partitioning bad_component bad_partitions bad_selector
    header_is =
        let p = (either_none (bad_component s) _ partitioning_none).1 in
        let q = (either_none (bad_index s) _ (either_none (bad_partitions s) _ p).1).1 in
        rw (
          grid_is,
          kept (pick (eqb s.planes 2) 3 0) s.component (pick_le (eqb s.planes 2) 3 0 255 (omega arith) (omega arith)) (either_none (bad_component s) _ partitioning_none).0,
          kept 4 s.partitions (omega arith) (either_none (ltb s.partitions 1) _ (either_none (bad_partitions s) _ p).0).1,
          kept (pick (eqb s.partitions 1) 0 3) s.selector (pick_le (eqb s.partitions 1) 0 3 255 (omega arith) (omega arith)) q,
          modes_kept,
        )

    -- 34
    weights_same : bad_weights (clip s) ≡ bad_weights s
    unfolding bad_weights
    weights_same =
        ap not (ap (λ (g : WeightGrid). within 64 (weight_count g) (most_at g.range) (weight_in (clip s))) grid_is
        ∙ within_same 64 (weight_count (sheet_grid s)) (most_at s.range) (weight_in s) (weight_in (clip s)) weight_at_lem (omega (arith, weight_most_le s.range range_in_lem)))

    endpoints_fit_lem : bad_endpoints s ≡ either (bad_endpoints (clip s)) (not (fits s))
    unfolding bad_endpoints fits
    endpoints_fit_lem =
        ap not (within_fit 18 (endpoint_count (header_of s)) (most_at (endpoint_range_of (header_of s))) (endpoint_in s) (endpoint_in (clip s)) endpoint_at_lem (most_le (endpoint_range_of (header_of s))))
        ∙ not_both (within 18 (endpoint_count (header_of s)) (most_at (endpoint_range_of (header_of s))) (endpoint_in (clip s))) (fits s)
        ∙ ap (λ (h : BlockHeader). either (not (within 18 (endpoint_count h) (most_at (endpoint_range_of h)) (endpoint_in (clip s)))) (not (fits s))) (sym header_is)

    -- 35
    mark_same : is_marked (clip s) ≡ is_marked s
    mark_same = equal 1 s.hdr (omega arith)

    without_same : marked_without (clip s) ≡ marked_without s
    unfolding marked_without
    without_same =
        ap (λ (b : Bool). both b (not (some_hdr (header_of (clip s))))) mark_same ∙ ap (λ (h : BlockHeader). both (is_marked s) (not (some_hdr h))) header_is

    fields_of_lem : field_reasons fp (clip s) ≡ field_reasons fp s
    unfolding field_reasons
    fields_of_lem = rw (fields_same fp, grid_is)

    -- all stages
    mode_fits : first_of (mode_refusals fp s) ≡ with34 (fits s) (first_of (mode_refusals fp (clip s)))
    unfolding number_reasons
    mode_fits =
        let h = header_of (clip s) in
        let m = is_marked (clip s) in
        let f = first_of (field_reasons fp (clip s)) in
        sym (mode_stages fp s)
        ∙ ap (λ (n : ℕ). stages fp n (is_marked s) (header_of s) (either (bad_endpoints s) (bad_weights s)) (marked_without s)) (ap first_of (sym fields_of_lem))
        ∙ ap (λ (b : Bool). stages fp f b (header_of s) (either (bad_endpoints s) (bad_weights s)) (marked_without s)) (sym mark_same)
        ∙ ap (λ (k : BlockHeader). stages fp f m k (either (bad_endpoints s) (bad_weights s)) (marked_without s)) (sym header_is)
        ∙ ap (λ (b : Bool). stages fp f m h (either b (bad_weights s)) (marked_without s)) endpoints_fit_lem
        ∙ ap (λ (b : Bool). stages fp f m h (either (either (bad_endpoints (clip s)) (not (fits s))) b) (marked_without s)) (sym weights_same)
        ∙ ap (λ (b : Bool). stages fp f m h (either (either (bad_endpoints (clip s)) (not (fits s))) (bad_weights (clip s))) b) (sym without_same)
        ∙ in_stages f (first_of (grid_reasons fp h [])) (pick (modes_misfit h) 33 0) (endpoint_fault m h) (bad_endpoints (clip s)) (bad_weights (clip s)) (fits s)
        (marked_without (clip s)) (field_below (clip s) fp) (first_below 35 (grid_reasons fp h []) (omega arith) tt)
        (first_below 35 (when (modes_misfit h) 33 ∷ []) (omega arith) tt) (endpoint_below m h)
        ∙ ap (with34 (fits s)) (mode_stages fp (clip s))

  -- where one is, it is told before all that differs
  mode_31 : (t : SymbolicBlock) (fp : ℕ) → bad_fields fp t ≡ true → first_of (mode_refusals fp t) ≡ pick (unknown_footprint fp) 1 31
  unfolding field_reasons
  mode_31 t fp e = sym (mode_stages fp t) ∙ rw e (sym (tells (unknown_footprint fp) _))

  mode_clip : Sized s → (fp : ℕ) → first_of (mode_refusals fp s) ≡ with34 (fits s) (first_of (mode_refusals fp (clip s)))
  mode_clip z fp = go (bad_fields fp s) refl where
    go : (b : Bool) → bad_fields fp s ≡ b → first_of (mode_refusals fp s) ≡ with34 (fits s) (first_of (mode_refusals fp (clip s)))
    go true e = rw (mode_31 s fp e, mode_31 (clip s) fp (fields_same fp ∙ e)) (tells_34 (unknown_footprint fp) (fits s))
    go false e = mode_fits fp z e

  -- ---- both

  -- the clipped one's refusal; where it has none or 35, 34 for an endpoint number above 255
  pub refusal_clip : Sized s → (fp : ℕ) → refusal_of fp s ≡ with34 (fits s) (refusal_of fp (clip s))
  refusal_clip z fp = go (eqb s.mark 1) refl where
    go : (b : Bool) → eqb s.mark 1 ≡ b → refusal_of fp s ≡ with34 (fits s) (refusal_of fp (clip s))
    go true e =
        let m : s.mark ≡ 1 = eqb-true s.mark 1 e in
        rw (refusal_is fp s, refusal_is fp (clip s), refusals_void s m fp, refusals_void (clip s) (omega arith) fp, void_same fp)
        (unless (first_of (void_refusals fp s)) (fits s) (void_fits fp) (void_below fp))
    go false e =
        let m : s.mark ≡ 1 → ⊥ = eqb-false s.mark 1 e in
        rw (refusal_is fp s, refusal_is fp (clip s), refusals_mode s m fp, refusals_mode (clip s) (λ q. m (omega arith)) fp)
        (mode_clip z fp)

  -- an acceptable symbolic block has nothing to clip
  pub clip_same : (fp : ℕ) → Sized s → refusal_of fp s ≡ 0 → clip s ≡ s
  clip_same fp z e =
      let t = typed fp s z e in
      rw (
        byte s.mark t.mark_u8,
        byte s.hdr t.hdr_u8,
        byte s.width t.width_u8,
        byte s.height t.height_u8,
        byte s.depth t.depth_u8,
        byte s.range t.range_u8,
        byte s.planes t.planes_u8,
        byte s.component t.component_u8,
        byte s.partitions t.partitions_u8,
        byte s.selector t.selector_u8,
        tab_back s.modes (λ i. min (mode_in s i) 255) 0 4 z.modes_4 (λ i l. sym (byte (mode_in s i) (t.modes_u8 i))),
        stored_back s.endpoints (λ i. min (endpoint_in s i) 255) 18 z.endpoints_18 (λ i l. byte (endpoint_in s i) (t.endpoints_u8 i)),
        stored_back s.weights (λ i. min (weight_in s i) 255) 64 z.weights_64 (λ i l. byte (weight_in s i) (t.weights_u8 i)),
      )

  -- a footprint that there is not is told first
  pub refused_1 : (fp : ℕ) → unknown_footprint fp ≡ true → refusal_of fp s ≡ 1
  unfolding refusals void_refusals mode_refusals
  refused_1 fp u = refusal_is fp s ∙ go (eqb s.mark 1) where
    go : (b : Bool) → first_of (pick b (void_refusals fp s) (mode_refusals fp s)) ≡ 1
    go true = rw u
    go false = rw u

-- ---- what is written

module _ (fp : ℕ) (s : SymbolicBlock) (z : Sized s) where
  pub written_clipped : fits s ≡ true → writing_of fp (clip s) ≡ writing_of fp s
  written_clipped f = go (eqb (refusal_of fp s) 0) refl where
    same : refusal_of fp s ≡ refusal_of fp (clip s)
    same = refusal_clip s z fp ∙ ap (λ (b : Bool). with34 b (refusal_of fp (clip s))) f

    go : (b : Bool) → eqb (refusal_of fp s) 0 ≡ b → writing_of fp (clip s) ≡ writing_of fp s
    go true e = ap (writing_of fp) (clip_same s fp z (eqb-true (refusal_of fp s) 0 e))
    go false e =
        let h : refusal_of fp s ≡ 0 → ⊥ = eqb-false (refusal_of fp s) 0 e in
        sym (refused fp (clip s) (λ q. h (same ∙ q))) ∙ ap wrote_nothing (sym same) ∙ refused fp s h

  pub refused_clipped : fits s ≡ false → wrote_nothing (or34 (refusal_of fp (clip s))) ≡ writing_of fp s
  refused_clipped f =
      told fp s (or34 (refusal_of fp (clip s))) (sym (refusal_clip s z fp ∙ ap (λ (b : Bool). with34 b (refusal_of fp (clip s))) f)) (some (refusal_of fp (clip s)))
    where
      some : (n : ℕ) → or34 n ≡ 0 → ⊥
      some n = go (eqb n 0) (eqb n 35) refl where
        go : (a b : Bool) → eqb n 0 ≡ a → pick (either a b) 34 n ≡ 0 → ⊥
        go true b e q = omega (arith, q)
        go false true e q = omega (arith, q)
        go false false e q = eqb-false n 0 e q
