-- What antt computes over the tables: every mode and partition fills a block's 128 bits, every anchor lies in its own subset, and a first
-- byte other than 0 tells one mode.
-- Assumes nothing.
use mathlib.Core.Path.{◌≡◌, refl, sym, ap, subst, ◌∙◌}
use mathlib.Core.Bool.{Bool, true, false, not}
use Prim.Native.Nat.{ℕ, zero, suc, ◌+◌, ◌-◌, ◌*◌, ◌/◌, ◌^◌, ◌%◌, ◌<◌, ◌≤◌}
use native.Mathlib.Omega.{arith}
use native.Mathlib.Nat.{le_trans, sub-le}
use lib.Dec.{T, eqb, ltb, leb, leb→le, ltb→lt, eqb→eq}
use borrow.Author.Tests.{eqb-true, eqb-false, eq-eqb, ne_eqb}
use Rattle.laws.specs.Choice.{pick, both, either, all}
use Rattle.laws.proofs.Computed.{each, both_left, both_right}
use Rattle.bits.specs.Field.{field}
use Rattle.bc7_layout.specs.Modes.{subsets, partition_bits, rotation_bits, selection_bits, colour_bits, alpha_bits, index_bits, secondary_bits, p_bits}
use Rattle.bc7_layout.specs.Partitions.{subset_of, anchor_of}
use Rattle.bc7_layout.specs.Layout.{endpoint_width, p_bit_width, primary_width, secondary_width, field_width, place_of, lowest_one}
use Rattle.bc7_layout.specs.Tables.{TablesSound}

-- ---- the fields of a mode end at bit 128, in each of its partitions

filled : ℕ → Bool
unfolding place_of partition_bits
filled m = all (λ p. eqb (place_of m p 60) 128) (2 ^ partition_bits m)

all_filled : T (all filled 8)
unfolding filled
all_filled = tt

pub filled_block : (m p : ℕ) → m < 8 → p < 2 ^ partition_bits m → place_of m p 60 ≡ 128
unfolding filled
filled_block m p h l = eqb→eq (place_of m p 60) 128 (each (λ q. eqb (place_of m q 60) 128) (2 ^ partition_bits m) (each filled 8 all_filled m h) p l)

-- ---- no field has more than eight bits

at_most_eight : (f : ℕ → ℕ) → T (all (λ m. leb (f m) 8) 8) → (m : ℕ) → m < 8 → f m ≤ 8
at_most_eight f t m h = leb→le (f m) 8 (each (λ n. leb (f n) 8) 8 t m h)

pub partition_most : (m : ℕ) → m < 8 → partition_bits m ≤ 8
unfolding partition_bits
partition_most = at_most_eight partition_bits tt

pub rotation_most : (m : ℕ) → m < 8 → rotation_bits m ≤ 8
unfolding rotation_bits
rotation_most = at_most_eight rotation_bits tt

pub selection_most : (m : ℕ) → m < 8 → selection_bits m ≤ 8
unfolding selection_bits
selection_most = at_most_eight selection_bits tt

pub colour_most : (m : ℕ) → m < 8 → colour_bits m ≤ 8
unfolding colour_bits
colour_most = at_most_eight colour_bits tt

pub alpha_most : (m : ℕ) → m < 8 → alpha_bits m ≤ 8
unfolding alpha_bits
alpha_most = at_most_eight alpha_bits tt

pub index_most : (m : ℕ) → m < 8 → index_bits m ≤ 8
unfolding index_bits
index_most = at_most_eight index_bits tt

pub secondary_most : (m : ℕ) → m < 8 → secondary_bits m ≤ 8
unfolding secondary_bits
secondary_most = at_most_eight secondary_bits tt

three_most : T (all (λ m. leb (subsets m) 3) 8)
unfolding subsets
three_most = tt

pub subsets_most : (m : ℕ) → m < 8 → subsets m ≤ 3
subsets_most m h = leb→le (subsets m) 3 (each (λ n. leb (subsets n) 3) 8 three_most m h)

most_of_lem : (t : Bool) (x y z : ℕ) → x ≤ z → y ≤ z → pick t x y ≤ z
most_of_lem true x y z h l = h
most_of_lem false x y z h l = l

pub width_most : (m p k : ℕ) → m < 8 → field_width m p k ≤ 8
unfolding field_width endpoint_width p_bit_width primary_width secondary_width
width_most m p k h =
    most_of_lem (eqb k 0) _ _ 8 (omega arith)
    (most_of_lem (eqb k 1) _ _ 8 (partition_most m h)
    (most_of_lem (eqb k 2) _ _ 8 (rotation_most m h)
    (most_of_lem (eqb k 3) _ _ 8 (selection_most m h)
    (most_of_lem (ltb k 22) _ _ 8
    (most_of_lem (ltb (k - 4) (6 * subsets m)) _ _ 8 (colour_most m h) (most_of_lem (ltb (k - 4) (8 * subsets m)) _ _ 8 (alpha_most m h) (omega arith)))
    (most_of_lem (ltb k 28) _ _ 8 (most_of_lem (ltb (k - 22) (p_bits m)) _ _ 8 (omega arith) (omega arith))
    (most_of_lem (ltb k 44) _ _ 8 (le_trans (sub-le (index_bits m) _) (index_most m h)) (le_trans (sub-le (secondary_bits m) _) (secondary_most m h))))))))

-- ---- "the anchor index": one texel of each subset; and no texel lies in a subset that is not there

anchored : ℕ → Bool
unfolding partition_bits subsets subset_of anchor_of
anchored m = all (λ p. all (λ j. eqb (subset_of (subsets m) p (anchor_of (subsets m) p j)) j) (subsets m)) (2 ^ partition_bits m)

all_anchored : T (all anchored 8)
unfolding anchored field
all_anchored = tt

pub anchor_within : (m p j : ℕ) → m < 8 → p < 2 ^ partition_bits m → j < subsets m → subset_of (subsets m) p (anchor_of (subsets m) p j) ≡ j
unfolding anchored
anchor_within m p j h l k =
    eqb→eq (subset_of (subsets m) p (anchor_of (subsets m) p j)) j
    (each (λ i. eqb (subset_of (subsets m) p (anchor_of (subsets m) p i)) i) (subsets m)
    (each (λ q. all (λ i. eqb (subset_of (subsets m) q (anchor_of (subsets m) q i)) i) (subsets m)) (2 ^ partition_bits m)
    (each anchored 8 all_anchored m h) p l) j k)

divided : ℕ → Bool
unfolding partition_bits subsets subset_of
divided m = all (λ p. all (λ i. ltb (subset_of (subsets m) p i) (subsets m)) 16) (2 ^ partition_bits m)

all_divided : T (all divided 8)
unfolding divided field
all_divided = tt

pub subset_lt : (m p i : ℕ) → m < 8 → p < 2 ^ partition_bits m → i < 16 → subset_of (subsets m) p i < subsets m
unfolding divided
subset_lt m p i h l k =
    ltb→lt (subset_of (subsets m) p i) (subsets m)
    (each (λ j. ltb (subset_of (subsets m) p j) (subsets m)) 16
    (each (λ q. all (λ j. ltb (subset_of (subsets m) q j) (subsets m)) 16) (2 ^ partition_bits m)
    (each divided 8 all_divided m h) p l) i k)

-- ---- the mode's mark

-- a byte other than 0 has a mode, and begins with its mark
marked : ℕ → Bool
unfolding lowest_one
marked b = either (eqb b 0) (both (ltb (lowest_one 8 b) 8) (eqb (b % 2 ^ (lowest_one 8 b + 1)) (2 ^ lowest_one 8 b)))

all_marked : T (all marked 256)
unfolding marked
all_marked = tt

-- a byte that begins with a mode's mark has this mode
single : ℕ → Bool
unfolding lowest_one
single m = all (λ b. either (not (eqb (b % 2 ^ (m + 1)) (2 ^ m))) (eqb (lowest_one 8 b) m)) 256

all_single : T (all single 8)
unfolding single
all_single = tt

or_right : (a b : Bool) → T (either a b) → a ≡ false → T b
or_right a b t e = rw e at t

pub mode_lt : (b : ℕ) → b < 256 → (b ≡ 0 → ⊥) → lowest_one 8 b < 8
unfolding marked
mode_lt b h z =
    ltb→lt (lowest_one 8 b) 8
    (both_left (ltb (lowest_one 8 b) 8) (eqb (b % 2 ^ (lowest_one 8 b + 1)) (2 ^ lowest_one 8 b))
    (or_right (eqb b 0) _ (each marked 256 all_marked b h) (ne_eqb b 0 z)))

pub mode_mark : (b : ℕ) → b < 256 → (b ≡ 0 → ⊥) → b % 2 ^ (lowest_one 8 b + 1) ≡ 2 ^ lowest_one 8 b
unfolding marked
mode_mark b h z =
    eqb→eq (b % 2 ^ (lowest_one 8 b + 1)) (2 ^ lowest_one 8 b)
    (both_right (ltb (lowest_one 8 b) 8) (eqb (b % 2 ^ (lowest_one 8 b + 1)) (2 ^ lowest_one 8 b))
    (or_right (eqb b 0) _ (each marked 256 all_marked b h) (ne_eqb b 0 z)))

pub mark_mode : (m b : ℕ) → m < 8 → b < 256 → b % 2 ^ (m + 1) ≡ 2 ^ m → lowest_one 8 b ≡ m
unfolding single
mark_mode m b h l e =
    eqb→eq (lowest_one 8 b) m
    (or_right (not (eqb (b % 2 ^ (m + 1)) (2 ^ m))) (eqb (lowest_one 8 b) m)
    (each (λ c. either (not (eqb (c % 2 ^ (m + 1)) (2 ^ m))) (eqb (lowest_one 8 c) m)) 256 (each single 8 all_single m h) b l)
    (rw (eq-eqb (b % 2 ^ (m + 1)) (2 ^ m) e)))

pub tables_sound : TablesSound
tables_sound = record {
  filled = filled_block;
  divided = subset_lt;
  anchored = anchor_within;
  known = mode_lt;
  marked = mode_mark;
  single = mark_mode;
}
