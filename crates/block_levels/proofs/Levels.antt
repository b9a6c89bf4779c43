-- The levels of a block's numbers: those that are read are unquantised, the others stay 0.
-- Assumes nothing.
use mathlib.Core.Path.{◌≡◌, refl, sym, ap, ◌∙◌, subst}
use mathlib.Core.Bool.{Bool, true, false}
use mathlib.Core.List.{List, []}
use Prim.Native.Nat.{ℕ, ◌+◌, ◌*◌, ◌/◌, ◌%◌, ◌≤◌, ◌<◌, min}
use native.Mathlib.Nat.{mul-le-mul_left}
use native.Mathlib.Decide.{dec_lt}
use native.Mathlib.Omega.{arith}
use lib.Dec.{T, eqb, leb, ltb, eqb→eq, leb→le}
use lib.ListN.{get_or, set}
use borrow.Author.Tests.{eq-eqb, ne_eqb, lt-ltb, le-ltb}
use Rattle.laws.specs.Choice.{pick, both, all}
use Rattle.laws.specs.Table.{tab, padded}
use Rattle.laws.proofs.Computed.{both_left, both_right, each}
use Rattle.laws.proofs.Filling.{get_or_tab, tab_ext, padded_none, padded_more, padded_here, padded_cap}
use Rattle.encoding.specs.declared.Encoding.{Encoding}
use Rattle.encoding.specs.declared.Level.{Level}
use Rattle.encoding.specs.declared.LevelPair.{LevelPair}
use Rattle.encoding.specs.inner.Levels.{first_level}
use Rattle.encoding.specs.declared.Stored.{Stored}
use Rattle.integer_sequence.specs.Reading.{number, numbers, sequence_at, stored}
use Rattle.quantization.specs.Ranges.{encoding_at, bits_at, most_at}
use Rattle.quantization.specs.inner.Products.{by_rule, Right}
use Rattle.quantization.specs.declared.Rule.{Rule}
use Rattle.quantization.specs.Unquantise.{is_endpoint, unquant_endpoint, unquant_weight}
use Rattle.quantization.proofs.Levels.{weight_le}
use Rattle.weight_grid.specs.Cell.{level, level_in}
use Rattle.weight_grid.specs.inner.Points.{no_point, point_of, points_of}
use Rattle.weight_reader.specs.inner.Weights.{one_plane, weights_of, paired_of}
use Rattle.block_mode.specs.declared.WeightGrid.{WeightGrid}
use Rattle.block_mode.specs.Back2D.{Limits}
use Rattle.block_header.specs.declared.BlockHeader.{BlockHeader}
use Rattle.block_header.specs.Counts.{weight_count, endpoint_count, endpoint_range_of}
use Rattle.block_fault.specs.Bits.{endpoints_from, endpoint_at}
use Rattle.texel.specs.Meaning.{endpoint_levels, weight_levels}
use Rattle.endpoint_arithmetic.specs.declared.EndpointPair.{EndpointPair}
use Rattle.endpoint_arithmetic.specs.Pair.{zero_pair}
use Rattle.color_endpoint.specs.Modes.{pair_of}
use Rattle.color_endpoint.specs.Table.{table_of}
use Rattle.color_endpoint.proofs.Laws.{table_at, entry_past}
use Rattle.interpolation.specs.Expansion.{no_pair}
use Rattle.interpolation.specs.inner.Line.{line_of}
use Rattle.interpolation.specs.declared.Kind.{Kind}
use Rattle.block_levels.specs.inner.Lines.{lines_in}

-- ---- the stored endpoint number 0 has the level 0

endpoint_zeros : T (all (λ k. eqb (unquant_endpoint k 0) 0) 21)
unfolding unquant_endpoint
endpoint_zeros = tt

pub endpoint_zero : (k : ℕ) → unquant_endpoint k 0 ≡ 0
unfolding unquant_endpoint
endpoint_zero k = go (is_endpoint k 0) refl where
  go : (t : Bool) → is_endpoint k 0 ≡ t → unquant_endpoint k 0 ≡ 0
  go true e =
      let h : T (is_endpoint k 0) = rw e tt in
      let hk : k ≤ 20 = leb→le k 20 (both_right (leb 4 k) (leb k 20) (both_left (both (leb 4 k) (leb k 20)) (leb 0 (most_at k)) h)) in
      eqb→eq _ _ (each (λ k. eqb (unquant_endpoint k 0) 0) 21 endpoint_zeros k (omega arith))
  go false e = rw e

-- ---- levels of the first n of N numbers that were read, over any unquantising f with f 0 = 0

value : List Stored → ℕ → ℕ
value xs i = (get_or xs i (stored 0)).0

pub levels_same : (f : ℕ → ℕ) → f 0 ≡ 0 → (N : ℕ) (κ : Encoding) (b s n : ℕ) → n ≤ 64
    → padded N n (λ i. level (f (get_or (numbers κ b s n) i (stored 0)).0)) (level 0) ≡ tab (λ i. level (f (pick (ltb i n) (number κ b s i) 0))) N
unfolding padded numbers
levels_same f z N κ b s n h =
    tab_ext (λ k. pick (ltb k n) (level (f (get_or (numbers κ b s n) k (stored 0)).0)) (level 0)) (λ i. level (f (pick (ltb i n) (number κ b s i) 0))) (level 0) N same
  where
    same : (k : ℕ) → k < N → pick (ltb k n) (level (f (get_or (numbers κ b s n) k (stored 0)).0)) (level 0) ≡ level (f (pick (ltb k n) (number κ b s k) 0))
    same k l =
        elim (dec_lt k n) [
          | yes p ↦ rw (lt-ltb k n p) (ap (λ (x : Stored). level (f x.0)) (padded_here (λ i. stored (number κ b s i)) (stored 0) 64 n k (stored 0) (omega arith) p))
          | no p ↦ rw (le-ltb k n (omega arith), z)
        ]

-- ---- a loop that unquantises by a rule

pub record SoFar (N : ℕ) (rule : Rule) (xs : List Stored) (out : List Level) (i : ℕ) : Type 0 where
  pub is : out ≡ padded N i (λ k. level (by_rule rule (get_or xs k (stored 0)).0)) (level 0)
  pub bytes : (k : ℕ) → k < i → (get_or xs k (stored 0)).0 < 256

module _ (N : ℕ) (rule : Rule) (xs : List Stored) where
  pub so_far_start : (out : List Level) → out ≡ tab (λ k. level 0) N → SoFar N rule xs out 0
  so_far_start out e = record { is = e ∙ sym (padded_none _ (level 0) N); bytes = λ k h. absurd (omega arith) }

  pub so_far_next : (out : List Level) (i : ℕ) {x : Stored} {v : Level} → i < N → x ≡ get_or xs i (stored 0) → x.0 < 256 → v.0 ≡ by_rule rule x.0
      → SoFar N rule xs out i → SoFar N rule xs (set out i v) (i + 1)
  so_far_next out i {x} {v} h ex hx ev w = record {
    is = rw w.is (padded_more (λ k. level (by_rule rule (get_or xs k (stored 0)).0)) (level 0) N i v h (λ j. record { 0 = (ev ∙ ap (λ (s : Stored). by_rule rule s.0) ex) j }));
    bytes = λ k l. elim (dec_lt k i) [
      | yes p ↦ w.bytes k p
      | no p ↦ let q : k ≡ i = omega arith in subst (λ (n : ℕ). (get_or xs n (stored 0)).0 < 256) (sym q) (subst (λ (s : Stored). s.0 < 256) ex hx)
    ];
  }

  pub so_far_done : (f : ℕ → ℕ) (out : List Level) (i n : ℕ) → i ≡ n → Right f rule → SoFar N rule xs out i
      → out ≡ padded N n (λ k. level (f (get_or xs k (stored 0)).0)) (level 0)
  unfolding Right padded
  so_far_done f out i n e r w =
      w.is ∙ tab_ext (λ k. pick (ltb k i) (level (by_rule rule (get_or xs k (stored 0)).0)) (level 0)) (λ k. pick (ltb k n) (level (f (get_or xs k (stored 0)).0)) (level 0)) (level 0) N same
    where
      same : (k : ℕ) → k < N → pick (ltb k i) (level (by_rule rule (get_or xs k (stored 0)).0)) (level 0) ≡ pick (ltb k n) (level (f (get_or xs k (stored 0)).0)) (level 0)
      same k l =
          elim (dec_lt k i) [
            | yes p ↦ rw (lt-ltb k i p, lt-ltb k n (omega arith)) (ap level (r (get_or xs k (stored 0)).0 (w.bytes k p)))
            | no p ↦ rw (le-ltb k i (omega arith), le-ltb k n (omega arith))
          ]

-- read, then unquantised
pub levels_read : (f : ℕ → ℕ) → f 0 ≡ 0 → (N : ℕ) (κ : Encoding) (b s n : ℕ) → n ≤ 64 → {xs : List Stored} {r : List Level} → xs ≡ numbers κ b s n
    → r ≡ padded N n (λ i. level (f (get_or xs i (stored 0)).0)) (level 0) → r ≡ tab (λ i. level (f (pick (ltb i n) (number κ b s i) 0))) N
levels_read f z N κ b s n h ex er = er ∙ ap (λ (l : List Stored). padded N n (λ i. level (f (get_or l i (stored 0)).0)) (level 0)) ex ∙ levels_same f z N κ b s n h

-- ---- the points of a weight grid

module _ (range s n : ℕ) (room : n ≤ 64) where
  abbrev number_at : ℕ → ℕ
  number_at k = number (encoding_at range) (bits_at range) s k

  -- the levels of the n weights of the sequence s
  abbrev levels : List Level
  levels = weight_levels range (λ i. pick (ltb i n) (number_at i) 0)

  level_at_lem : (k : ℕ) → k < n → unquant_weight range (number_at k) ≡ level_in levels k
  unfolding weight_levels level_in
  level_at_lem k h =
      sym (ap (λ (x : Level). x.0) (get_or_tab (λ i. level (unquant_weight range (pick (ltb i n) (number_at i) 0))) 64 k (level 0) (omega arith))
      ∙ ap (λ (t : Bool). unquant_weight range (pick t (number_at k) 0)) (lt-ltb k n h))

  -- points that are the same as far as they count
  points_same : (f g : ℕ → LevelPair) (count : ℕ) → ((k : ℕ) → k < count → f k ≡ g k) → padded 64 count f no_point ≡ padded 64 count g no_point
  unfolding padded
  points_same f g count e = tab_ext (λ k. pick (ltb k count) (f k) no_point) (λ k. pick (ltb k count) (g k) no_point) no_point 64 same where
    same : (k : ℕ) → k < 64 → pick (ltb k count) (f k) no_point ≡ pick (ltb k count) (g k) no_point
    same k l = elim (dec_lt k count) [ yes p ↦ rw (lt-ltb k count p) (e k p) | no p ↦ rw (le-ltb k count (omega arith)) ]

  -- of one plane
  pub one_plane_lem : {r : List LevelPair} (planes count : ℕ) → planes ≡ 1 → n ≡ count * planes → r ≡ weights_of range s n → r ≡ points_of levels planes count
  unfolding weights_of points_of point_of
  one_plane_lem planes count one en e =
      let ec : n ≡ count = omega (arith, en, ap (λ (p : ℕ). count * p) one) in
      e ∙ ap (λ (m : ℕ). padded 64 m (λ i. one_plane (unquant_weight range (number_at i))) no_point) ec
      ∙ points_same _ _ count (λ k h. rw (ne_eqb planes 2 (omega arith)) (ap one_plane (level_at_lem k (omega arith) ∙ ap (level_in levels) (let p : k ≡ k * planes = omega (arith, ap (λ (q : ℕ). k * q) one) in p))))

  -- of two, whose levels alternate
  pub two_planes : {w r : List LevelPair} (planes count : ℕ) → planes ≡ 2 → n ≡ count * planes → w ≡ weights_of range s n → r ≡ paired_of w (n / 2) → r ≡ points_of levels planes count
  unfolding weights_of paired_of points_of point_of
  two_planes {w} planes count two en ew e =
      let m : n ≡ 2 * count = omega (arith, en, ap (λ (q : ℕ). count * q) two) in
      let half : n / 2 ≡ count = omega (arith, m) in
      rw half at e
      ∙ points_same _ _ count (λ k h. rw (eq-eqb planes 2 two)
      (let at : k * planes ≡ 2 * k = omega (arith, ap (λ (q : ℕ). k * q) two) in
      rw (at, read (2 * k) (omega (arith, m)), read (2 * k + 1) (omega (arith, m)))))
    where
      read : (k : ℕ) → k < n → first_level (get_or w k no_point) ≡ level_in levels k
      read k h =
          ap (λ (l : List LevelPair). first_level (get_or l k no_point)) ew
          ∙ ap first_level (padded_here (λ i. one_plane (unquant_weight range (number_at i))) no_point 64 n k no_point (omega arith) h)
          ∙ (let z : (unquant_weight range (number_at k) + 65536 * 0) % 256 ≡ unquant_weight range (number_at k) = omega (arith, weight_le range (number_at k)) in z)
          ∙ level_at_lem k h

-- ---- the lines of a table's pairs

pub lines_same : (modes : List ℕ) (count : ℕ) (levels : List Level) {n : ℕ} {t : List EndpointPair} {r : List (List ℕ)}
    → n ≡ min count 4 → t ≡ table_of modes count levels → r ≡ padded 4 n (λ p. line_of (get_or t p no_pair)) (line_of zero_pair)
    → r ≡ tab (λ p. line_of (get_or (table_of modes count levels) p no_pair)) 4
unfolding padded
lines_same modes count levels en et er =
    er ∙ rw (et, en) (padded_cap (λ p. line_of (get_or (table_of modes count levels) p no_pair)) (line_of zero_pair) 4 count
    ∙ tab_ext (λ k. pick (ltb k count) (line_of (get_or (table_of modes count levels) k no_pair)) (line_of zero_pair)) (λ p. line_of (get_or (table_of modes count levels) p no_pair)) [] 4 same)
  where
    same : (k : ℕ) → k < 4 → pick (ltb k count) (line_of (get_or (table_of modes count levels) k no_pair)) (line_of zero_pair) ≡ line_of (get_or (table_of modes count levels) k no_pair)
    same k l =
        elim (dec_lt k count) [
          | yes p ↦ rw (lt-ltb k count p)
          | no p ↦ rw (le-ltb k count (omega arith)) (ap line_of (sym (table_at pair_of zero_pair modes levels count k no_pair l ∙ entry_past pair_of zero_pair modes levels count k (omega arith))))
        ]

-- a grid of at most 64 weights has at most 64 points, and so has each of its layers
pub points_le : (g : WeightGrid) → Limits g → weight_count g ≤ 64 → g.width * g.height * g.depth ≤ 64
unfolding weight_count
points_le g l n = omega (arith, n, mul-le-mul_left (g.width * g.height * g.depth) l.planes_low)

pub layer_le : (g : WeightGrid) → Limits g → weight_count g ≤ 64 → g.width * g.height ≤ 64
layer_le g l n = omega (arith, points_le g l n, mul-le-mul_left (g.width * g.height) l.depth_low)

-- the levels of endpoint numbers by their range, count and place
levels_by : ℕ → ℕ → ℕ → ℕ → List Level
levels_by B range n from =
    endpoint_levels range (λ i. pick (ltb i n) (number (encoding_at range) (bits_at range) (sequence_at (encoding_at range) (bits_at range) B from n) i) 0)

pub lines_told : (B : ℕ) (h : BlockHeader) (kind : Kind) {n from range : ℕ} {ends : List Level} {r : List (List ℕ)}
    → n ≡ endpoint_count h → from ≡ endpoints_from h.partitions → range ≡ endpoint_range_of h
    → ends ≡ endpoint_levels range (λ i. pick (ltb i n) (number (encoding_at range) (bits_at range) (sequence_at (encoding_at range) (bits_at range) B from n) i) 0)
    → r ≡ lines_in kind h ends
    → r ≡ lines_in kind h (endpoint_levels (endpoint_range_of h) (endpoint_at B h))
unfolding levels_by endpoint_at
lines_told B h kind {n} {from} {range} en ef er ee el =
    el
    ∙ ap (λ (l : List Level). lines_in kind h l)
    (ee ∙ ap (λ (k : ℕ). levels_by B k n from) er ∙ ap (λ (m : ℕ). levels_by B (endpoint_range_of h) m from) en ∙ ap (levels_by B (endpoint_range_of h) (endpoint_count h)) ef)
