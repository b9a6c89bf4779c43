-- A partition's plan tells the subset of each texel and whether it is an anchor; the table holds the plans; the count of zeros below the first
-- byte's lowest one is the mode.
-- Assumes nothing.
use mathlib.Core.Path.{◌≡◌, refl, sym, ap, ap₂, ◌∙◌}
use mathlib.Core.Bool.{Bool, true, false}
use mathlib.Core.List.{List}
use Prim.Native.Nat.{ℕ, ◌+◌, ◌-◌, ◌*◌, ◌/◌, ◌%◌, ◌^◌, ◌≤◌, ◌<◌}
use native.Mathlib.Omega.{arith}
use native.Mathlib.Nat.{zero-div, zero-add}
use native.Mathlib.Decide.{dec_lt, ℕ_discrete}
use lib.Count.{count_trailing_zeros}
use lib.Dec.{T, eqb, leb, eqb→eq, leb→le}
use lib.ListN.{length, get_or, get_or-eq_default}
use borrow.Author.Tests.{ne_eqb, eq-eqb}
use Rattle.laws.specs.Choice.{pick, both, either, all}
use Rattle.laws.specs.Table.{tab}
use Rattle.laws.proofs.Computed.{each, both_left, both_right}
use Rattle.laws.proofs.Filling.{get_or_tab}
use Rattle.bits.specs.Field.{field, stream}
use Rattle.bits.proofs.Fields.{field_lt, stream_ext}
use Rattle.bc7_layout.specs.Partitions.{two_subsets, three_subsets, second_of_two, second_of_three, third_of_three, digit_at, subset_of, anchor_of, is_anchor}
use Rattle.bc7_layout.specs.declared.Mode.{Mode}
use Rattle.bc7_layout.specs.Modes.{mode_row, subsets, index_bits}
use Rattle.bc7_layout.specs.Layout.{primary_width, lowest_one, first_byte, mode_at}
use Rattle.bc7_layout.specs.inner.Plan.{plan_of, plan_run, whole_plan}

-- ---- what a plan tells

tells : ℕ → ℕ → ℕ → Bool
unfolding subset_of is_anchor
tells n p plan =
    all (λ i. both (eqb (plan / 2 ^ (2 * i) % 4) (subset_of n p i)) (eqb (plan / 2 ^ (32 + i) % 2) (pick (is_anchor n p i) 1 0))) 16

told : ℕ → Bool
unfolding tells plan_of
told n = all (λ p. tells n p (plan_of n p)) 64

all_told : T (both (told 2) (told 3))
unfolding told field
all_told = tt

tells_subset : (n p plan i : ℕ) → T (tells n p plan) → i < 16 → plan / 2 ^ (2 * i) % 4 ≡ subset_of n p i
unfolding tells
tells_subset n p plan i t h =
    eqb→eq _ _ (both_left (eqb (plan / 2 ^ (2 * i) % 4) (subset_of n p i)) (eqb (plan / 2 ^ (32 + i) % 2) (pick (is_anchor n p i) 1 0))
    (each (λ j. both (eqb (plan / 2 ^ (2 * j) % 4) (subset_of n p j)) (eqb (plan / 2 ^ (32 + j) % 2) (pick (is_anchor n p j) 1 0))) 16 t i h))

tells_anchor : (n p plan i : ℕ) → T (tells n p plan) → i < 16 → plan / 2 ^ (32 + i) % 2 ≡ pick (is_anchor n p i) 1 0
unfolding tells
tells_anchor n p plan i t h =
    eqb→eq _ _ (both_right (eqb (plan / 2 ^ (2 * i) % 4) (subset_of n p i)) (eqb (plan / 2 ^ (32 + i) % 2) (pick (is_anchor n p i) 1 0))
    (each (λ j. both (eqb (plan / 2 ^ (2 * j) % 4) (subset_of n p j)) (eqb (plan / 2 ^ (32 + j) % 2) (pick (is_anchor n p j) 1 0))) 16 t i h))

-- of one subset, and of a partition that no table has
none_of : (x i : ℕ) → x ≡ 0 → digit_at x i ≡ 0
unfolding digit_at field
none_of x i e = rw (e, zero-div (2 ^ (60 - 4 * i)))

pick_zero : (t : Bool) (x y : ℕ) → x ≡ 0 → y ≡ 0 → pick t x y ≡ 0
pick_zero true x y a b = a
pick_zero false x y a b = b

all_whole : T (tells 1 0 whole_plan)
unfolding tells whole_plan field
all_whole = tt

-- texel 0 alone is an anchor, and every texel lies in subset 0
pub record Whole (n p : ℕ) : Type 0 where
  pub subset : (i : ℕ) → subset_of n p i ≡ subset_of 1 0 i
  pub anchor : (i : ℕ) → is_anchor n p i ≡ is_anchor 1 0 i

pub whole_plan_lem : (n p : ℕ) → Whole n p → plan_of n p ≡ whole_plan
unfolding plan_of whole_plan subset_of is_anchor anchor_of stream
whole_plan_lem n p w =
    ap₂ ◌+◌ (stream_ext (λ i. 2 * i) (subset_of n p) (subset_of 1 0) 16 (λ i _. w.subset i))
    (stream_ext (λ i. 32 + i) (λ i. pick (is_anchor n p i) 1 0) (λ i. pick (is_anchor 1 0 i) 1 0) 16 (λ i _. ap (λ (b : Bool). pick b 1 0) (w.anchor i)))

pub whole_one : (n p : ℕ) → (n ≡ 2 → ⊥) → (n ≡ 3 → ⊥) → Whole n p
unfolding subset_of is_anchor anchor_of
whole_one n p a b = record { subset = λ i. rw (ne_eqb n 2 a, ne_eqb n 3 b); anchor = λ i. rw (ne_eqb n 2 a, ne_eqb n 3 b) }

pub whole_past : (n p : ℕ) → 64 ≤ p → Whole n p
unfolding subset_of is_anchor anchor_of
whole_past n p h =
    let e : (t : List ℕ) → length t ≡ 64 → get_or t p 0 ≡ 0 = λ t l. get_or-eq_default t 0 {n = p} (omega (arith, l)) in
    let second : anchor_of n p 1 ≡ 0 = pick_zero (eqb n 2) _ _ (e second_of_two refl) (pick_zero (eqb n 3) _ _ (e second_of_three refl) refl) in
    let third : anchor_of n p 2 ≡ 0 = pick_zero (eqb n 3) _ _ (e third_of_three refl) refl in
    record {
      subset = λ i. pick_zero (eqb n 2) _ _ (none_of _ i (e two_subsets refl)) (pick_zero (eqb n 3) _ _ (none_of _ i (e three_subsets refl)) refl);
      anchor = λ i. ap₂ (λ (x y : ℕ). either (eqb i 0) (either (eqb i x) (eqb i y))) second third;
    }

whole_told : (n p : ℕ) → Whole n p → (i : ℕ) → i < 16 → (plan_of n p / 2 ^ (2 * i) % 4 ≡ subset_of n p i) × (plan_of n p / 2 ^ (32 + i) % 2 ≡ pick (is_anchor n p i) 1 0)
whole_told n p w i h = (
  ap (λ (x : ℕ). x / 2 ^ (2 * i) % 4) (whole_plan_lem n p w) ∙ tells_subset 1 0 whole_plan i all_whole h ∙ sym (w.subset i),
  ap (λ (x : ℕ). x / 2 ^ (32 + i) % 2) (whole_plan_lem n p w) ∙ tells_anchor 1 0 whole_plan i all_whole h ∙ sym (ap (λ (b : Bool). pick b 1 0) (w.anchor i)),
)

table_told : (n p : ℕ) → T (told n) → p < 64 → (i : ℕ) → i < 16 → (plan_of n p / 2 ^ (2 * i) % 4 ≡ subset_of n p i) × (plan_of n p / 2 ^ (32 + i) % 2 ≡ pick (is_anchor n p i) 1 0)
unfolding told
table_told n p t l i h =
    let k : T (tells n p (plan_of n p)) = each (λ q. tells n q (plan_of n q)) 64 t p l in
    (tells_subset n p (plan_of n p) i k h, tells_anchor n p (plan_of n p) i k h)

plan_told : (n p i : ℕ) → i < 16 → (plan_of n p / 2 ^ (2 * i) % 4 ≡ subset_of n p i) × (plan_of n p / 2 ^ (32 + i) % 2 ≡ pick (is_anchor n p i) 1 0)
plan_told n p i h =
    elim (dec_lt p 64) [
      | no l ↦ whole_told n p (whole_past n p (omega arith)) i h
      | yes l ↦ elim (ℕ_discrete n 2) [
        | yes e ↦ table_told n p (rw e (both_left (told 2) (told 3) all_told)) l i h
        | no a ↦ elim (ℕ_discrete n 3) [
          | yes e ↦ table_told n p (rw e (both_right (told 2) (told 3) all_told)) l i h
          | no b ↦ whole_told n p (whole_one n p a b) i h
        ]
      ]
    ]

pub plan_subset : (n p plan i : ℕ) → plan ≡ plan_of n p → i < 16 → plan / 2 ^ (2 * i) % 4 ≡ subset_of n p i
plan_subset n p plan i e h = rw e (plan_told n p i h).0

pub plan_anchor : (n p plan i : ℕ) → plan ≡ plan_of n p → i < 16 → plan / 2 ^ (32 + i) % 2 ≡ pick (is_anchor n p i) 1 0
plan_anchor n p plan i e h = rw e (plan_told n p i h).1

-- the bits of a primary index
pub primary_by : (m p plan i : ℕ) (w : Mode) (x y : ℕ) → w ≡ mode_row m → plan ≡ plan_of (subsets m) p → i < 16 → x ≡ w.index → y ≡ plan / 2 ^ (32 + i) % 2
    → x - y ≡ primary_width m p i
unfolding primary_width index_bits
primary_by m p plan i w x y e q h ex ey = ap₂ ◌-◌ (ex ∙ ap (λ (v : Mode). v.index) e) (ey ∙ plan_anchor (subsets m) p plan i q h)

-- ---- the tables

pub run_first : (n i : ℕ) (t : List ℕ) → t ≡ plan_run n 0 → i < 16 → get_or t i 0 ≡ plan_of n i
unfolding plan_run
run_first n i t e h = ap (λ (x : List ℕ). get_or x i 0) e ∙ get_or_tab (λ k. plan_of n (0 + k)) 16 i 0 h ∙ ap (plan_of n) (zero-add i)

pub run_at : (n from i : ℕ) (t : List ℕ) → t ≡ plan_run n from → from ≤ i → i < from + 16 → get_or t (i - from) 0 ≡ plan_of n i
unfolding plan_run
run_at n from i t e l h =
    let q : from + (i - from) ≡ i = omega arith in
    ap (λ (x : List ℕ). get_or x (i - from) 0) e ∙ get_or_tab (λ k. plan_of n (from + k)) 16 (i - from) 0 (omega arith) ∙ ap (plan_of n) q

-- ---- the mode

zeros_below : ℕ → Bool
unfolding count_trailing_zeros lowest_one
zeros_below b = both (eqb (count_trailing_zeros 64 (b + 256)) (lowest_one 8 b)) (leb (lowest_one 8 b) 8)

all_below : T (all zeros_below 256)
unfolding zeros_below
all_below = tt

module _ (B b : ℕ) (e : b ≡ field B 0 8) where
  here : T (zeros_below b)
  here = each zeros_below 256 all_below b (rw e (field_lt B 0 8))

  counted : count_trailing_zeros 64 (b + 256) ≡ lowest_one 8 b
  unfolding zeros_below
  counted = eqb→eq _ _ (both_left (eqb (count_trailing_zeros 64 (b + 256)) (lowest_one 8 b)) (leb (lowest_one 8 b) 8) here)

  pub mode_counted : count_trailing_zeros 64 (b + 256) ≡ mode_at B
  unfolding mode_at first_byte
  mode_counted = counted ∙ ap (lowest_one 8) e

  pub mode_small : count_trailing_zeros 64 (b + 256) ≤ 8
  unfolding zeros_below
  mode_small = rw counted (leb→le _ _ (both_right (eqb (count_trailing_zeros 64 (b + 256)) (lowest_one 8 b)) (leb (lowest_one 8 b) 8) here))

  pub byte_lt : b < 256
  byte_lt = rw e (field_lt B 0 8)
