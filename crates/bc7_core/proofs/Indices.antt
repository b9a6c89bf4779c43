-- The two sets of indices: their bits, where they lie, one index after the other, and the factors that they give.
-- Assumes nothing.
use mathlib.Core.Path.{◌≡◌, refl, sym, ap, ap₂, ◌∙◌}
use mathlib.Core.Bool.{Bool, true, false, not}
use Prim.Native.Nat.{ℕ, zero, suc, ◌+◌, ◌-◌, ◌*◌, ◌/◌, ◌%◌, ◌^◌, ◌≤◌, ◌<◌}
use native.Mathlib.Nat.{add-zero, add-suc, add_comm}
use native.Mathlib.Numerals.{add-one}
use native.Mathlib.Omega.{arith}
use lib.Dec.{T, eqb, ltb, leb, eqb→eq, leb→le, ltb→lt}
use borrow.Author.Tests.{ne_eqb, eq-eqb, eqb-true, ltb-true, lt-ltb, le-ltb}
use Rattle.laws.specs.Choice.{pick, both, either, all}
use Rattle.laws.proofs.Computed.{each, both_left, both_right, both_true}
use Rattle.bits.specs.Field.{field}
use Rattle.bits.proofs.Fields.{field_low, field_high, field_none}
use Rattle.bc7_layout.specs.declared.Mode.{Mode}
use Rattle.bc7_layout.specs.Modes.{mode_row, subsets, partition_bits, selection_bits, index_bits, secondary_bits}
use Rattle.bc7_layout.specs.Partitions.{is_anchor, anchor_of}
use Rattle.bc7_layout.specs.Layout.{primary_width, secondary_width, field_width, place_of, mode_at, partition_field_at, field_at}
use Rattle.bc7_layout.specs.inner.Plan.{plan_of}
use Rattle.bc7_layout.proofs.Rows.{width_primary, width_secondary}
use Rattle.bc7_layout.proofs.Packing.{plan_anchor}
use Rattle.bc7_block.specs.Picture.{factor_of, primary_factor, secondary_factor, colour_factor, alpha_factor}
use Rattle.bc7_core.specs.declared.IndexSet.{IndexSet}
use Rattle.bc7_core.specs.inner.Sets.{set_bits, colour_set, alpha_set, rest_of, set_of, SetIn, primary, secondary}
use Rattle.bc7_ends.proofs.Places.{place_any}

-- ---- Table 13.1 as lines

abbrev slope_of : ℕ → ℕ
slope_of bits = pick (eqb bits 2) 5461 (pick (eqb bits 3) 2341 1092)

on_line : ℕ → Bool
unfolding factor_of
on_line b = all (λ i. eqb ((i * slope_of b + 128) / 256) (factor_of b i)) (2 ^ b)

all_lines : T (both (on_line 2) (both (on_line 3) (on_line 4)))
unfolding on_line
all_lines = tt

line_at : (bits i : ℕ) → T (on_line bits) → i < 2 ^ bits → (i * slope_of bits + 128) / 256 ≡ factor_of bits i
unfolding on_line
line_at bits i t h = eqb→eq _ _ (each (λ k. eqb ((k * slope_of bits + 128) / 256) (factor_of bits k)) (2 ^ bits) t i h)

pub factor_is : (bits i : ℕ) → 2 ≤ bits → bits ≤ 4 → i < 2 ^ bits → (i * slope_of bits + 128) / 256 ≡ factor_of bits i
factor_is bits i lo hi = by bits lo hi where
  by : (b : ℕ) → 2 ≤ b → b ≤ 4 → i < 2 ^ b → (i * slope_of b + 128) / 256 ≡ factor_of b i
  by zero lo hi = absurd (omega arith)
  by (suc zero) lo hi = absurd (omega arith)
  by (suc (suc zero)) lo hi = line_at 2 i (both_left (on_line 2) (both (on_line 3) (on_line 4)) all_lines)
  by (suc (suc (suc zero))) lo hi = line_at 3 i (both_left (on_line 3) (on_line 4) (both_right (on_line 2) (both (on_line 3) (on_line 4)) all_lines))
  by (suc (suc (suc (suc zero)))) lo hi = line_at 4 i (both_right (on_line 3) (on_line 4) (both_right (on_line 2) (both (on_line 3) (on_line 4)) all_lines))
  by (suc (suc (suc (suc (suc b))))) lo hi = absurd (omega arith)

-- ---- what the modes have, computed

or_right : (a b : Bool) → T (either a b) → a ≡ false → T b
or_right a b t e = rw e at t

-- an index has two to four bits; a secondary set comes with one subset and no partition, behind sixteen primary indices with one anchor
sets : ℕ → Bool
unfolding subsets partition_bits selection_bits index_bits secondary_bits place_of
sets m =
    both (both (leb 2 (index_bits m)) (leb (index_bits m) 4))
    (either (eqb (secondary_bits m) 0)
    (both (both (leb 2 (secondary_bits m)) (leb (secondary_bits m) 4))
    (both (both (eqb (subsets m) 1) (eqb (partition_bits m) 0)) (eqb (place_of m 0 28 + 16 * index_bits m - 1) (place_of m 0 44)))))

all_sets : T (all sets 8)
unfolding sets
all_sets = tt

selected : ℕ → Bool
unfolding selection_bits secondary_bits
selected m = either (not (eqb (selection_bits m) 1)) (ltb 0 (secondary_bits m))

all_selected : T (all selected 8)
unfolding selected
all_selected = tt

module _ (m : ℕ) (h : m < 8) where
  first_part : T (both (leb 2 (index_bits m)) (leb (index_bits m) 4))
  unfolding sets
  first_part = both_left (both (leb 2 (index_bits m)) (leb (index_bits m) 4)) _ (each sets 8 all_sets m h)

  module _ (z : 0 < secondary_bits m) where
    second_part : T (both (both (leb 2 (secondary_bits m)) (leb (secondary_bits m) 4))
        (both (both (eqb (subsets m) 1) (eqb (partition_bits m) 0)) (eqb (place_of m 0 28 + 16 * index_bits m - 1) (place_of m 0 44))))
    unfolding sets
    second_part =
        or_right (eqb (secondary_bits m) 0) _ (both_right (both (leb 2 (index_bits m)) (leb (index_bits m) 4)) _ (each sets 8 all_sets m h))
        (ne_eqb (secondary_bits m) 0 (λ e. omega arith))

    third_part : T (both (both (eqb (subsets m) 1) (eqb (partition_bits m) 0)) (eqb (place_of m 0 28 + 16 * index_bits m - 1) (place_of m 0 44)))
    third_part = both_right (both (leb 2 (secondary_bits m)) (leb (secondary_bits m) 4)) _ second_part

    pub one_subset : subsets m ≡ 1
    one_subset = eqb→eq _ _ (both_left (eqb (subsets m) 1) (eqb (partition_bits m) 0) (both_left (both (eqb (subsets m) 1) (eqb (partition_bits m) 0)) _ third_part))

    no_partition : partition_bits m ≡ 0
    no_partition = eqb→eq _ _ (both_right (eqb (subsets m) 1) (eqb (partition_bits m) 0) (both_left (both (eqb (subsets m) 1) (eqb (partition_bits m) 0)) _ third_part))

    second_place : place_of m 0 28 + 16 * index_bits m - 1 ≡ place_of m 0 44
    second_place = eqb→eq _ _ (both_right (both (eqb (subsets m) 1) (eqb (partition_bits m) 0)) _ third_part)

  pub set_least : (k : ℕ) → SetIn m k → 2 ≤ set_bits m k
  unfolding set_bits
  set_least k primary = leb→le _ _ (both_left (leb 2 (index_bits m)) (leb (index_bits m) 4) first_part)
  set_least k (secondary z) = leb→le _ _ (both_left (leb 2 (secondary_bits m)) (leb (secondary_bits m) 4) (both_left (both (leb 2 (secondary_bits m)) (leb (secondary_bits m) 4)) _ (second_part z)))

  pub set_most : (k : ℕ) → SetIn m k → set_bits m k ≤ 4
  unfolding set_bits
  set_most k primary = leb→le _ _ (both_right (leb 2 (index_bits m)) (leb (index_bits m) 4) first_part)
  set_most k (secondary z) = leb→le _ _ (both_right (leb 2 (secondary_bits m)) (leb (secondary_bits m) 4) (both_left (both (leb 2 (secondary_bits m)) (leb (secondary_bits m) 4)) _ (second_part z)))

  pub selected_has : selection_bits m ≡ 1 → 0 < secondary_bits m
  unfolding selected
  selected_has e = ltb→lt _ _ (or_right (not (eqb (selection_bits m) 1)) _ (each selected 8 all_selected m h) (rw (eq-eqb (selection_bits m) 1 e)))

-- ---- the bits of an index

same_either : (b : Bool) → either b (either b b) ≡ b
same_either true = refl
same_either false = refl

alone : (n p i : ℕ) → n ≡ 1 → is_anchor n p i ≡ eqb i 0
unfolding is_anchor anchor_of
alone n p i e = rw e (same_either (eqb i 0))

pub set_width : (m p plan k i : ℕ) → m < 8 → SetIn m k → plan ≡ plan_of (subsets m) p → i < 16 → set_bits m k - plan / 2 ^ (32 + i) % 2 ≡ field_width m p (k + i)
unfolding set_bits primary_width secondary_width
set_width m p plan k i h primary e l =
    let q : 28 + i - 28 ≡ i = omega arith in
    ap (λ (x : ℕ). index_bits m - x) (plan_anchor (subsets m) p plan i e l)
    ∙ ap (λ (x : ℕ). primary_width m p x) (sym q) ∙ width_primary m p (28 + i) (omega arith) (omega arith)
set_width m p plan k i h (secondary z) e l =
    let q : 44 + i - 44 ≡ i = omega arith in
    ap (λ (x : ℕ). secondary_bits m - x) (plan_anchor (subsets m) p plan i e l ∙ ap (λ (b : Bool). pick b 1 0) (alone (subsets m) p i (one_subset m h z)))
    ∙ ap (λ (x : ℕ). secondary_width m x) (sym q) ∙ width_secondary m p (44 + i) (omega arith)

-- ---- one index after the other

module _ (B k plan : ℕ) (h : mode_at B < 8) (s : SetIn (mode_at B) k) (e : plan ≡ plan_of (subsets (mode_at B)) (partition_field_at B)) where
  abbrev at : ℕ → ℕ
  at i = place_of (mode_at B) (partition_field_at B) (k + i)

  abbrev w : ℕ → ℕ
  w i = field_width (mode_at B) (partition_field_at B) (k + i)

  width_four : (i : ℕ) → i < 16 → w i ≤ 4
  width_four i l = let q = set_width (mode_at B) (partition_field_at B) plan k i h s e l in let m = set_most (mode_at B) h k s in omega arith

  next_at : (i : ℕ) → at (suc i) ≡ w i + at i
  unfolding place_of
  next_at i = ap (place_of (mode_at B) (partition_field_at B)) (add-suc k i)

  span : (i : ℕ) → i ≤ 16 → (at 0 ≤ at i) × (at i ≤ at 0 + 4 * i)
  span zero l = (omega arith, omega arith)
  span (suc i) l =
      let p = span i (omega arith) in
      let q = width_four i (omega arith) in
      let n = next_at i in
      (omega arith, omega arith)

  start : at 0 ≡ place_of (mode_at B) (partition_field_at B) k
  start = ap (place_of (mode_at B) (partition_field_at B)) (add-zero k)

  module _ (i : ℕ) (l : i < 16) where
    left : ℕ
    left = 64 - (at i - place_of (mode_at B) (partition_field_at B) k)

    enough : w i ≤ left
    unfolding left
    enough = let p = span i (omega arith) in let q = width_four i l in let z = start in omega arith

    cut : left ≡ left - w i + w i
    cut = let z = enough in omega arith

    pub rest_index : rest_of B k i % 2 ^ w i ≡ field_at B (k + i)
    unfolding rest_of left field_at
    rest_index = ap (λ (n : ℕ). field B (at i) n % 2 ^ w i) cut ∙ field_low B (at i) (left - w i) (w i)

    pub rest_next : rest_of B k i / 2 ^ w i ≡ rest_of B k (i + 1)
    unfolding rest_of left
    rest_next =
        let p = span i (omega arith) in
        let z = start in
        let n = next_at i in
        let q = enough in
        let t : at (i + 1) ≡ at i + w i = ap at (add-one i) ∙ n ∙ add_comm (w i) (at i) in
        let d : left - w i ≡ 64 - (at (i + 1) - place_of (mode_at B) (partition_field_at B) k) = omega arith in
        ap (λ (n : ℕ). field B (at i) n / 2 ^ w i) cut ∙ field_high B (at i) (left - w i) (w i) ∙ ap₂ (field B) (sym t) d

-- what is left of a set before its first index
rest_start : (B k : ℕ) → field B (place_of (mode_at B) (partition_field_at B) k) 64 ≡ rest_of B k 0
unfolding rest_of
rest_start B k =
    let p = place_of (mode_at B) (partition_field_at B) k in
    let z : 64 - (p - p) ≡ 64 = omega arith in
    ap (λ (n : ℕ). field B p n) (sym z) ∙ ap (λ (j : ℕ). field B (place_of (mode_at B) (partition_field_at B) j) (64 - (place_of (mode_at B) (partition_field_at B) j - p))) (sym (add-zero k))

pub primary_start : (B at r : ℕ) → at ≡ place_of (mode_at B) 0 28 → r ≡ field B at 64 → r ≡ rest_of B 28 0
primary_start B at r ea er =
    er ∙ ap (λ (n : ℕ). field B n 64) (ea ∙ sym (place_any (mode_at B) (partition_field_at B) 28 (omega arith))) ∙ rest_start B 28

partition_zero : (B : ℕ) → partition_bits (mode_at B) ≡ 0 → partition_field_at B ≡ 0
unfolding partition_field_at
partition_zero B e = ap (λ (n : ℕ). field B (mode_at B + 1) n) e ∙ field_none B (mode_at B + 1)

pub secondary_start : (B at n r : ℕ) → mode_at B < 8 → 0 < secondary_bits (mode_at B) → at ≡ place_of (mode_at B) 0 28 → n ≡ index_bits (mode_at B)
    → r ≡ field B (at + 16 * n - 1) 64 → r ≡ rest_of B 44 0
secondary_start B at n r h z ea en er =
    let p : partition_field_at B ≡ 0 = partition_zero B (no_partition (mode_at B) h z) in
    er ∙ ap (λ (x : ℕ). field B x 64) ((λ t. ea t + 16 * en t - 1) ∙ second_place (mode_at B) h z ∙ ap (λ (q : ℕ). place_of (mode_at B) q 44) (sym p)) ∙ rest_start B 44

-- ---- which set is whose

pick_set : (t : Bool) (m : ℕ) → (t ≡ true → 0 < secondary_bits m) → SetIn m (pick t 44 28)
pick_set true m h = secondary (h refl)
pick_set false m h = primary

pub colour_set_in : (m : ℕ) (v : ℕ → ℕ) → m < 8 → SetIn m (colour_set m v)
unfolding colour_set
colour_set_in m v h = pick_set (both (eqb (selection_bits m) 1) (eqb (v 3) 1)) m (λ e. selected_has m h (eqb-true _ 1 (both_true (eqb (selection_bits m) 1) (eqb (v 3) 1) e).0))

pub alpha_set_in : (m : ℕ) (v : ℕ → ℕ) → SetIn m (alpha_set m v)
unfolding alpha_set
alpha_set_in m v =
    pick_set (both (ltb 0 (secondary_bits m)) (either (eqb (selection_bits m) 0) (eqb (v 3) 0))) m
    (λ e. ltb-true 0 (secondary_bits m) (both_true (ltb 0 (secondary_bits m)) (either (eqb (selection_bits m) 0) (eqb (v 3) 0)) e).0)

by_set : (t : Bool) (m : ℕ) (v : ℕ → ℕ) (i : ℕ) → factor_of (set_bits m (pick t 44 28)) (v (pick t 44 28 + i)) ≡ pick t (secondary_factor m v i) (primary_factor m v i)
unfolding set_bits secondary_factor primary_factor
by_set true m v i = refl
by_set false m v i = refl

pub colour_by_set : (m : ℕ) (v : ℕ → ℕ) (i : ℕ) → factor_of (set_bits m (colour_set m v)) (v (colour_set m v + i)) ≡ colour_factor m v i
unfolding colour_set colour_factor
colour_by_set m v i = by_set (both (eqb (selection_bits m) 1) (eqb (v 3) 1)) m v i

pub alpha_by_set : (m : ℕ) (v : ℕ → ℕ) (i : ℕ) → factor_of (set_bits m (alpha_set m v)) (v (alpha_set m v + i)) ≡ alpha_factor m v i
unfolding alpha_set alpha_factor
alpha_by_set m v i = by_set (both (ltb 0 (secondary_bits m)) (either (eqb (selection_bits m) 0) (eqb (v 3) 0))) m v i

-- where there is no second set, both are the first
pub same_set : (m : ℕ) (v : ℕ → ℕ) → m < 8 → secondary_bits m ≡ 0 → colour_set m v ≡ alpha_set m v
unfolding colour_set alpha_set
same_set m v h z =
    rw (
      ne_eqb (selection_bits m) 1 (λ e. let k = selected_has m h e in omega arith),
      le-ltb 0 (secondary_bits m) (omega arith),
    )

-- ---- the sets as they are made

pub has_index : (m : ℕ) (w : Mode) (x : ℕ) → w ≡ mode_row m → m < 8 → x ≡ w.index → 2 ≤ x
unfolding index_bits
has_index m w x e h ex = rw (ex ∙ ap (λ (v : Mode). v.index) e) (leb→le _ _ (both_left (leb 2 (index_bits m)) (leb (index_bits m) 4) (first_part m h)))

module _ (B : ℕ) (w : Mode) (e : w ≡ mode_row (mode_at B)) (h : mode_at B < 8) (at n r : ℕ) (ea : at ≡ place_of (mode_at B) 0 28) where
  pub primary_set_is : n ≡ w.index → r ≡ field B at 64 → ◌≡◌ {A = IndexSet} (record { first = 28; bits = n; rest = r }) (set_of B 28 0)
  unfolding set_of set_bits index_bits
  primary_set_is en er =
      let p : n ≡ index_bits (mode_at B) = en ∙ ap (λ (v : Mode). v.index) e in
      let q = primary_start B at r ea er in
      λ t. record { first = 28; bits = p t; rest = q t }

  pub secondary_set_is : (i : ℕ) → 0 < secondary_bits (mode_at B) → n ≡ w.secondary → i ≡ w.index → r ≡ field B (at + 16 * i - 1) 64
      → ◌≡◌ {A = IndexSet} (record { first = 44; bits = n; rest = r }) (set_of B 44 0)
  unfolding set_of set_bits index_bits secondary_bits
  secondary_set_is i z en ei er =
      let p : n ≡ secondary_bits (mode_at B) = en ∙ ap (λ (v : Mode). v.secondary) e in
      let q = secondary_start B at i r h z ea (ei ∙ ap (λ (v : Mode). v.index) e) er in
      λ t. record { first = 44; bits = p t; rest = q t }

-- which of them, by the tests of the code

module _ (B : ℕ) (w : Mode) (e : w ≡ mode_row (mode_at B)) (h : mode_at B < 8) (s : ℕ) (es : s ≡ field_at B 3) where
  selection_bit : w.selection ≡ selection_bits (mode_at B)
  unfolding selection_bits
  selection_bit = ap (λ (v : Mode). v.selection) e

  secondary_bits_lem : w.secondary ≡ secondary_bits (mode_at B)
  unfolding secondary_bits
  secondary_bits_lem = ap (λ (v : Mode). v.secondary) e

  pub colour_unselected : (w.selection ≡ 1 → ⊥) → 28 ≡ colour_set (mode_at B) (field_at B)
  unfolding colour_set
  colour_unselected z = rw (ne_eqb (selection_bits (mode_at B)) 1 (λ q. z (selection_bit ∙ q)))

  pub colour_second : w.selection ≡ 1 → s ≡ 1 → 44 ≡ colour_set (mode_at B) (field_at B)
  unfolding colour_set
  colour_second z y = rw (eq-eqb (selection_bits (mode_at B)) 1 (sym selection_bit ∙ z), eq-eqb (field_at B 3) 1 (sym es ∙ y))

  pub colour_first : w.selection ≡ 1 → (s ≡ 1 → ⊥) → 28 ≡ colour_set (mode_at B) (field_at B)
  unfolding colour_set
  colour_first z y = rw (eq-eqb (selection_bits (mode_at B)) 1 (sym selection_bit ∙ z), ne_eqb (field_at B 3) 1 (λ q. y (es ∙ q)))

  pub has_secondary : w.selection ≡ 1 → 0 < secondary_bits (mode_at B)
  has_secondary z = selected_has (mode_at B) h (sym selection_bit ∙ z)

  pub alpha_alone : w.secondary ≡ 0 → 28 ≡ alpha_set (mode_at B) (field_at B)
  unfolding alpha_set
  alpha_alone z = let q : secondary_bits (mode_at B) ≤ 0 = omega (arith, secondary_bits_lem) in rw (le-ltb 0 (secondary_bits (mode_at B)) q)

  module _ (z : w.secondary ≡ 0 → ⊥) where
    pub some_secondary : 0 < secondary_bits (mode_at B)
    some_secondary = omega (arith, secondary_bits_lem, z)

    pub alpha_always : w.selection ≡ 0 → 44 ≡ alpha_set (mode_at B) (field_at B)
    unfolding alpha_set
    alpha_always y = rw (lt-ltb 0 (secondary_bits (mode_at B)) some_secondary, eq-eqb (selection_bits (mode_at B)) 0 (sym selection_bit ∙ y))

    pub alpha_second : (w.selection ≡ 0 → ⊥) → s ≡ 0 → 44 ≡ alpha_set (mode_at B) (field_at B)
    unfolding alpha_set
    alpha_second y u =
        rw (lt-ltb 0 (secondary_bits (mode_at B)) some_secondary, ne_eqb (selection_bits (mode_at B)) 0 (λ q. y (selection_bit ∙ q)), eq-eqb (field_at B 3) 0 (sym es ∙ u))

    pub alpha_first : (w.selection ≡ 0 → ⊥) → (s ≡ 0 → ⊥) → 28 ≡ alpha_set (mode_at B) (field_at B)
    unfolding alpha_set
    alpha_first y u =
        rw (lt-ltb 0 (secondary_bits (mode_at B)) some_secondary, ne_eqb (selection_bits (mode_at B)) 0 (λ q. y (selection_bit ∙ q)), ne_eqb (field_at B 3) 0 (λ q. u (es ∙ q)))

-- a set by its number
pub set_by : (B k n : ℕ) (s : IndexSet) → s ≡ set_of B k 0 → k ≡ n → s ≡ set_of B n 0
set_by B k n s e q = e ∙ ap (λ (x : ℕ). set_of B x 0) q
