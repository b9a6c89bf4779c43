-- Where the fields of a block lie, by the row of its mode.
-- Assumes nothing.
use mathlib.Core.Path.{◌≡◌, refl, sym, ap, ap₂, ◌∙◌}
use mathlib.Core.Bool.{Bool, true, false, not}
use Prim.Native.Nat.{ℕ, zero, suc, ◌+◌, ◌*◌, ◌/◌, ◌%◌, ◌≤◌, ◌<◌}
use native.Mathlib.Nat.{mul-le-mul}
use native.Mathlib.Omega.{arith}
use native.Mathlib.Decide.{dec_lt}
use lib.Dec.{T, eqb, ltb, leb, eqb→eq, leb→le, ltb→lt}
use borrow.Author.Tests.{eq-eqb, ne_eqb}
use Rattle.laws.specs.Choice.{pick, both, either, all}
use Rattle.laws.proofs.Computed.{each, both_left, both_right}
use Rattle.bits.specs.Field.{field}
use Rattle.bc7_layout.specs.declared.Mode.{Mode}
use Rattle.bc7_layout.specs.Modes.{mode_row, subsets, partition_bits, rotation_bits, selection_bits, colour_bits, alpha_bits, endpoint_pbits, shared_pbits, p_bits}
use Rattle.bc7_layout.specs.Layout.{field_width, place_of, mode_at, partition_field_at, field_at}
use Rattle.bc7_layout.specs.inner.Plan.{plan_of}
use Rattle.bc7_layout.proofs.Rows.{width_header, width_endpoint, width_pbit}
use Rattle.bc7_layout.proofs.Tables.{subsets_most, colour_most, alpha_most, rotation_most, selection_most}
use Rattle.bc7_block.specs.Picture.{stored_end, p_bit_of, has_pbit, widened_end, end_channel, rotated}
use Rattle.bc7_block.proofs.Bounds.{end_most, rotation_here, rotated_lt}
use Rattle.bc7_block.proofs.Known.{fits}
use Rattle.bc7_ends.specs.inner.Frame.{channel_bits}

-- ---- the frame's places, computed over the modes

same_all : (f g : ℕ → ℕ) → T (all (λ m. eqb (f m) (g m)) 8) → (m : ℕ) → m < 8 → f m ≡ g m
same_all f g t m h = eqb→eq (f m) (g m) (each (λ n. eqb (f n) (g n)) 8 t m h)

ends_place : (m : ℕ) → m < 8 → m + 1 + partition_bits m + rotation_bits m + selection_bits m ≡ place_of m 0 4
unfolding place_of partition_bits rotation_bits selection_bits
ends_place = same_all (λ m. m + 1 + partition_bits m + rotation_bits m + selection_bits m) (λ m. place_of m 0 4) tt

p_bits_place : (m : ℕ) → m < 8 → place_of m 0 4 + 3 * (2 * subsets m * colour_bits m) + 2 * subsets m * alpha_bits m ≡ place_of m 0 22
unfolding place_of subsets colour_bits alpha_bits
p_bits_place = same_all (λ m. place_of m 0 4 + 3 * (2 * subsets m * colour_bits m) + 2 * subsets m * alpha_bits m) (λ m. place_of m 0 22) tt

indices_place : (m : ℕ) → m < 8 → place_of m 0 22 + (2 * endpoint_pbits m + shared_pbits m) * subsets m ≡ place_of m 0 28
unfolding place_of subsets endpoint_pbits shared_pbits
indices_place = same_all (λ m. place_of m 0 22 + (2 * endpoint_pbits m + shared_pbits m) * subsets m) (λ m. place_of m 0 28) tt

all_most : T (all (λ m. leb (place_of m 0 28) 128) 8)
unfolding place_of
all_most = tt

pub indices_most : (m : ℕ) → m < 8 → place_of m 0 28 ≤ 128
indices_most m h = leb→le (place_of m 0 28) 128 (each (λ n. leb (place_of n 0 28) 128) 8 all_most m h)

module _ (m : ℕ) (w : Mode) (e : w ≡ mode_row m) (h : m < 8) where
  pub ends_is : (a b c d : ℕ) → a ≡ m → b ≡ w.partition → c ≡ w.rotation → d ≡ w.selection
      → (a + 1 + b + c + d ≡ place_of m 0 4) × (a + 1 + b + c + d ≤ 128)
  unfolding partition_bits rotation_bits selection_bits
  ends_is a b c d ea eb ec ed =
      let p = ends_place m h in
      let q : a + 1 + b + c + d ≡ place_of m 0 4 =
      (λ t. ea t + 1 + (eb ∙ ap (λ (v : Mode). v.partition) e) t + (ec ∙ ap (λ (v : Mode). v.rotation) e) t + (ed ∙ ap (λ (v : Mode). v.selection) e) t)
      ∙ p in
      (q, omega (arith, q, p_bits_place m h, indices_place m h, indices_most m h))

  pub step_is : (n c : ℕ) → n ≡ w.subsets → c ≡ w.colour → (2 * n * c ≡ 2 * subsets m * colour_bits m) × (2 * n * c ≤ 48)
  unfolding subsets colour_bits
  step_is n c en ec =
      let q : 2 * n * c ≡ 2 * subsets m * colour_bits m = λ t. 2 * (en ∙ ap (λ (v : Mode). v.subsets) e) t * (ec ∙ ap (λ (v : Mode). v.colour) e) t in
      let a : 2 * subsets m ≤ 6 = omega (arith, subsets_most m h) in
      let l : 2 * subsets m * colour_bits m ≤ 6 * 8 = mul-le-mul a (colour_most m h) in
      (q, omega arith)

  pub p_bits_is : (ends step n a : ℕ) → ends ≡ place_of m 0 4 → step ≡ 2 * subsets m * colour_bits m → n ≡ w.subsets → a ≡ w.alpha
      → (ends + 3 * step + 2 * n * a ≡ place_of m 0 22) × (ends + 3 * step + 2 * n * a ≤ 128)
  unfolding subsets alpha_bits
  p_bits_is ends step n a ee es en ea =
      let q : ends + 3 * step + 2 * n * a ≡ place_of m 0 22 =
      (λ t. ee t + 3 * es t + 2 * (en ∙ ap (λ (v : Mode). v.subsets) e) t * (ea ∙ ap (λ (v : Mode). v.alpha) e) t) ∙ p_bits_place m h in
      (q, omega (arith, indices_place m h, indices_most m h))

  pub indices_is : (pb a b n : ℕ) → pb ≡ place_of m 0 22 → a ≡ w.ends → b ≡ w.shared → n ≡ w.subsets
      → (pb + (2 * a + b) * n ≡ place_of m 0 28) × (pb + (2 * a + b) * n ≤ 128)
  unfolding subsets endpoint_pbits shared_pbits
  indices_is pb a b n ep ea eb en =
      let q : pb + (2 * a + b) * n ≡ place_of m 0 28 =
      (λ t. ep t + (2 * (ea ∙ ap (λ (v : Mode). v.ends) e) t + (eb ∙ ap (λ (v : Mode). v.shared) e) t) * (en ∙ ap (λ (v : Mode). v.subsets) e) t) ∙ indices_place m h in
      (q, omega (arith, indices_most m h))

-- ---- up to the indices no place depends on the partition

width_any : (m p k : ℕ) → k < 28 → field_width m p k ≡ field_width m 0 k
width_any m p k h =
    elim (dec_lt k 4) [
      | yes a ↦ sym (width_header m p k a)
      | no a ↦ elim (dec_lt k 22) [
        | yes b ↦ sym (width_endpoint m p k (omega arith) b) ∙ width_endpoint m 0 k (omega arith) b
        | no b ↦ sym (width_pbit m p k (omega arith) h) ∙ width_pbit m 0 k (omega arith) h
      ]
    ]

pub place_any : (m p k : ℕ) → k ≤ 28 → place_of m p k ≡ place_of m 0 k
unfolding place_of
place_any m p zero h = refl
place_any m p (suc k) h = ap₂ ◌+◌ (width_any m p k h) (place_any m p k (omega arith))

early : (B k : ℕ) → k < 28 → field B (place_of (mode_at B) 0 k) (field_width (mode_at B) 0 k) ≡ field_at B k
unfolding field_at
early B k h = ap₂ (field B) (sym (place_any (mode_at B) (partition_field_at B) k (omega arith))) (sym (width_any (mode_at B) (partition_field_at B) k h))

-- a field by a place and a width that are known
pub field_is : (B k at w r : ℕ) → k < 28 → at ≡ place_of (mode_at B) 0 k → w ≡ field_width (mode_at B) 0 k → r ≡ field B at w → r ≡ field_at B k
field_is B k at w r h ea ew er = er ∙ ap₂ (field B) ea ew ∙ early B k h

-- ---- the channels of the ends

in_place : ℕ → ℕ → ℕ → Bool
unfolding place_of field_width subsets colour_bits channel_bits
in_place m c x =
    both (eqb (place_of m 0 4 + c * (2 * subsets m * colour_bits m) + x * channel_bits m c) (place_of m 0 (4 + (c * (2 * subsets m) + x))))
    (both (eqb (channel_bits m c) (field_width m 0 (4 + (c * (2 * subsets m) + x)))) (ltb (c * (2 * subsets m) + x) 18))

-- every channel that has bits
channel_placed : ℕ → Bool
unfolding in_place subsets channel_bits
channel_placed m = all (λ c. either (eqb (channel_bits m c) 0) (all (in_place m c) (2 * subsets m))) 4

all_channels : T (all channel_placed 8)
unfolding channel_placed
all_channels = tt

or_right : (a b : Bool) → T (either a b) → a ≡ false → T b
or_right a b t e = rw e at t

module _ (m c x : ℕ) (h : m < 8) (hc : c < 4) (hx : x < 2 * subsets m) (z : 0 < channel_bits m c) where
  here : T (in_place m c x)
  unfolding channel_placed
  here =
      each (in_place m c) (2 * subsets m)
      (or_right (eqb (channel_bits m c) 0) (all (in_place m c) (2 * subsets m))
      (each (λ d. either (eqb (channel_bits m d) 0) (all (in_place m d) (2 * subsets m))) 4 (each channel_placed 8 all_channels m h) c hc)
      (ne_eqb (channel_bits m c) 0 (λ e. omega arith))) x hx

  pub channel_place : place_of m 0 4 + c * (2 * subsets m * colour_bits m) + x * channel_bits m c ≡ place_of m 0 (4 + (c * (2 * subsets m) + x))
  unfolding in_place
  channel_place =
      eqb→eq _ _ (both_left (eqb (place_of m 0 4 + c * (2 * subsets m * colour_bits m) + x * channel_bits m c) (place_of m 0 (4 + (c * (2 * subsets m) + x))))
      (both (eqb (channel_bits m c) (field_width m 0 (4 + (c * (2 * subsets m) + x)))) (ltb (c * (2 * subsets m) + x) 18)) here)

  rest : T (both (eqb (channel_bits m c) (field_width m 0 (4 + (c * (2 * subsets m) + x)))) (ltb (c * (2 * subsets m) + x) 18))
  unfolding in_place
  rest =
      both_right (eqb (place_of m 0 4 + c * (2 * subsets m * colour_bits m) + x * channel_bits m c) (place_of m 0 (4 + (c * (2 * subsets m) + x))))
      (both (eqb (channel_bits m c) (field_width m 0 (4 + (c * (2 * subsets m) + x)))) (ltb (c * (2 * subsets m) + x) 18)) here

  pub channel_width : channel_bits m c ≡ field_width m 0 (4 + (c * (2 * subsets m) + x))
  channel_width = eqb→eq _ _ (both_left (eqb (channel_bits m c) (field_width m 0 (4 + (c * (2 * subsets m) + x)))) (ltb (c * (2 * subsets m) + x) 18) rest)

  pub channel_number : c * (2 * subsets m) + x < 18
  channel_number = ltb→lt _ _ (both_right (eqb (channel_bits m c) (field_width m 0 (4 + (c * (2 * subsets m) + x)))) (ltb (c * (2 * subsets m) + x) 18) rest)

pub channel_most : (m c : ℕ) → m < 8 → channel_bits m c ≤ 8
unfolding channel_bits
channel_most m c h = go (eqb c 3) where
  go : (t : Bool) → pick t (alpha_bits m) (colour_bits m) ≤ 8
  go true = alpha_most m h
  go false = colour_most m h

module _ (B : ℕ) (h : mode_at B < 8) where
  pub stored_is : (x c w at step r : ℕ) → x < 2 * subsets (mode_at B) → c < 4 → w ≡ channel_bits (mode_at B) c → 0 < w → at ≡ place_of (mode_at B) 0 4
      → step ≡ 2 * subsets (mode_at B) * colour_bits (mode_at B) → r ≡ field B (at + c * step + x * w) w
      → r ≡ stored_end (mode_at B) (field_at B) (x / 2) (x % 2) c
  unfolding stored_end
  stored_is x c w at step r hx hc ew z ea es er =
      let m = mode_at B in
      let y : 0 < channel_bits m c = omega arith in
      let k = channel_number m c x h hc hx y in
      let n : c * (2 * subsets m) + 2 * (x / 2) + x % 2 ≡ c * (2 * subsets m) + x = omega arith in
      field_is B (4 + (c * (2 * subsets m) + x)) (at + c * step + x * w) w r (omega arith)
      ((λ t. ea t + c * es t + x * ew t) ∙ channel_place m c x h hc hx y) (ew ∙ channel_width m c x h hc hx y) er
      ∙ ap (λ (i : ℕ). field_at B (4 + i)) (sym n)

-- ---- P bits

p_placed : ℕ → Bool
unfolding place_of field_width p_bits
p_placed m = all (λ y. both (eqb (place_of m 0 22 + y) (place_of m 0 (22 + y))) (eqb 1 (field_width m 0 (22 + y)))) (p_bits m)

all_p : T (all p_placed 8)
unfolding p_placed
all_p = tt

-- of how many, by the kind of them
p_counted : ℕ → Bool
unfolding p_bits subsets endpoint_pbits shared_pbits
p_counted m =
    both (leb (p_bits m) 6)
    (pick (eqb (endpoint_pbits m) 1) (eqb (p_bits m) (2 * subsets m)) (either (not (eqb (shared_pbits m) 1)) (eqb (p_bits m) (subsets m))))

all_counted : T (all p_counted 8)
unfolding p_counted
all_counted = tt

module _ (m y : ℕ) (h : m < 8) (l : y < p_bits m) where
  p_here : T (both (eqb (place_of m 0 22 + y) (place_of m 0 (22 + y))) (eqb 1 (field_width m 0 (22 + y))))
  unfolding p_placed
  p_here = each (λ i. both (eqb (place_of m 0 22 + i) (place_of m 0 (22 + i))) (eqb 1 (field_width m 0 (22 + i)))) (p_bits m) (each p_placed 8 all_p m h) y l

  pub p_place : place_of m 0 22 + y ≡ place_of m 0 (22 + y)
  p_place = eqb→eq _ _ (both_left (eqb (place_of m 0 22 + y) (place_of m 0 (22 + y))) (eqb 1 (field_width m 0 (22 + y))) p_here)

  pub p_width : 1 ≡ field_width m 0 (22 + y)
  p_width = eqb→eq _ _ (both_right (eqb (place_of m 0 22 + y) (place_of m 0 (22 + y))) (eqb 1 (field_width m 0 (22 + y))) p_here)

module _ (m : ℕ) (h : m < 8) where
  counted : T (both (leb (p_bits m) 6) (pick (eqb (endpoint_pbits m) 1) (eqb (p_bits m) (2 * subsets m)) (either (not (eqb (shared_pbits m) 1)) (eqb (p_bits m) (subsets m)))))
  unfolding p_counted
  counted = each p_counted 8 all_counted m h

  pub p_most : p_bits m ≤ 6
  p_most = leb→le _ _ (both_left (leb (p_bits m) 6) _ counted)

  pub p_each : endpoint_pbits m ≡ 1 → p_bits m ≡ 2 * subsets m
  p_each e =
      let k : T (pick (eqb (endpoint_pbits m) 1) (eqb (p_bits m) (2 * subsets m)) (either (not (eqb (shared_pbits m) 1)) (eqb (p_bits m) (subsets m)))) = both_right (leb (p_bits m) 6) _ counted in
      eqb→eq _ _ (rw (eq-eqb (endpoint_pbits m) 1 e) at k)

  pub p_shared : (endpoint_pbits m ≡ 1 → ⊥) → shared_pbits m ≡ 1 → p_bits m ≡ subsets m
  p_shared e s =
      let k : T (pick (eqb (endpoint_pbits m) 1) (eqb (p_bits m) (2 * subsets m)) (either (not (eqb (shared_pbits m) 1)) (eqb (p_bits m) (subsets m)))) = both_right (leb (p_bits m) 6) _ counted in
      eqb→eq _ _ (rw (ne_eqb (endpoint_pbits m) 1 e, eq-eqb (shared_pbits m) 1 s) at k)

module _ (B : ℕ) (h : mode_at B < 8) (x at r : ℕ) (hx : x < 2 * subsets (mode_at B)) (ea : at ≡ place_of (mode_at B) 0 22) where
  pub p_own : endpoint_pbits (mode_at B) ≡ 1 → r ≡ field B (at + x) 1 → r ≡ p_bit_of (mode_at B) (field_at B) (x / 2) (x % 2)
  unfolding p_bit_of
  p_own e er =
      let m = mode_at B in
      let l : x < p_bits m = let q = p_each m h e in omega arith in
      let q = p_most m h in
      let n : 2 * (x / 2) + x % 2 ≡ x = omega arith in
      field_is B (22 + x) (at + x) 1 r (omega arith) (ap (λ (i : ℕ). i + x) ea ∙ p_place m x h l) (p_width m x h l) er
      ∙ rw (eq-eqb (endpoint_pbits m) 1 e, n)

  pub p_of_subset : (endpoint_pbits (mode_at B) ≡ 1 → ⊥) → shared_pbits (mode_at B) ≡ 1 → r ≡ field B (at + x / 2) 1 → r ≡ p_bit_of (mode_at B) (field_at B) (x / 2) (x % 2)
  unfolding p_bit_of
  p_of_subset e s er =
      let m = mode_at B in
      let l : x / 2 < p_bits m = let q = p_shared m h e s in omega arith in
      let q = p_most m h in
      field_is B (22 + x / 2) (at + x / 2) 1 r (omega arith) (ap (λ (i : ℕ). i + x / 2) ea ∙ p_place m (x / 2) h l) (p_width m (x / 2) h l) er
      ∙ rw (ne_eqb (endpoint_pbits m) 1 e)

-- ---- rotation and index selection

rotation_place : (m : ℕ) → m < 8 → m + 1 + partition_bits m ≡ place_of m 0 2
unfolding place_of partition_bits
rotation_place = same_all (λ m. m + 1 + partition_bits m) (λ m. place_of m 0 2) tt

selection_place : (m : ℕ) → m < 8 → m + 1 + partition_bits m + rotation_bits m ≡ place_of m 0 3
unfolding place_of partition_bits rotation_bits
selection_place = same_all (λ m. m + 1 + partition_bits m + rotation_bits m) (λ m. place_of m 0 3) tt

module _ (B : ℕ) (h : mode_at B < 8) (w : Mode) (e : w ≡ mode_row (mode_at B)) (m p q s r : ℕ) (em : m ≡ mode_at B) (ep : p ≡ w.partition) (eq : q ≡ w.rotation) where
  pub rotation_bits_lem : q ≤ 8
  unfolding rotation_bits
  rotation_bits_lem = rw (eq ∙ ap (λ (v : Mode). v.rotation) e) (rotation_most (mode_at B) h)

  pub rotation_is : r ≡ field B (m + 1 + p) q → r ≡ field_at B 2
  unfolding field_width partition_bits rotation_bits
  rotation_is er =
      field_is B 2 (m + 1 + p) q r (omega arith) ((λ t. em t + 1 + (ep ∙ ap (λ (v : Mode). v.partition) e) t) ∙ rotation_place (mode_at B) h)
      (eq ∙ ap (λ (v : Mode). v.rotation) e) er

  pub selection_bits_lem : s ≡ w.selection → s ≤ 8
  unfolding selection_bits
  selection_bits_lem es = rw (es ∙ ap (λ (v : Mode). v.selection) e) (selection_most (mode_at B) h)

  pub selection_is : s ≡ w.selection → r ≡ field B (m + 1 + p + q) s → r ≡ field_at B 3
  unfolding field_width partition_bits rotation_bits selection_bits
  selection_is es er =
      field_is B 3 (m + 1 + p + q) s r (omega arith)
      ((λ t. em t + 1 + (ep ∙ ap (λ (v : Mode). v.partition) e) t + (eq ∙ ap (λ (v : Mode). v.rotation) e) t) ∙ selection_place (mode_at B) h)
      (es ∙ ap (λ (v : Mode). v.selection) e) er

-- ---- the frame's plan

pub plan_is : (B m p plan : ℕ) (w : Mode) → m ≡ mode_at B → w ≡ mode_row m → p ≡ field B (m + 1) (partition_bits m) → plan ≡ plan_of w.subsets p
    → plan ≡ plan_of (subsets (mode_at B)) (partition_field_at B)
unfolding subsets partition_field_at
plan_is B m p plan w em ew ep e =
    e ∙ ap₂ plan_of (ap (λ (v : Mode). v.subsets) (ew ∙ ap mode_row em)) (ep ∙ ap (λ (n : ℕ). field B (n + 1) (partition_bits n)) em)

-- ---- the width of a channel with its P bit

pbit : ℕ → Bool
unfolding endpoint_pbits shared_pbits
pbit m = either (eqb (endpoint_pbits m) 1) (eqb (shared_pbits m) 1)

ranged : ℕ → Bool
unfolding channel_bits pbit
ranged m =
    all (λ c. either (eqb (channel_bits m c) 0)
    (both (leb 4 (pick (pbit m) (channel_bits m c + 1) (channel_bits m c))) (leb (pick (pbit m) (channel_bits m c + 1) (channel_bits m c)) 8))) 4

all_ranged : T (all ranged 8)
unfolding ranged
all_ranged = tt

module _ (m c w : ℕ) (h : m < 8) (hc : c < 4) (ew : w ≡ channel_bits m c) (z : 0 < w) where
  in_range : T (both (leb 4 (pick (pbit m) (channel_bits m c + 1) (channel_bits m c))) (leb (pick (pbit m) (channel_bits m c + 1) (channel_bits m c)) 8))
  unfolding ranged
  in_range =
      or_right (eqb (channel_bits m c) 0) _
      (each (λ d. either (eqb (channel_bits m d) 0)
      (both (leb 4 (pick (pbit m) (channel_bits m d + 1) (channel_bits m d))) (leb (pick (pbit m) (channel_bits m d + 1) (channel_bits m d)) 8))) 4
      (each ranged 8 all_ranged m h) c hc) (ne_eqb (channel_bits m c) 0 (λ e. omega arith))

  bounds : (4 ≤ pick (pbit m) (channel_bits m c + 1) (channel_bits m c)) × (pick (pbit m) (channel_bits m c + 1) (channel_bits m c) ≤ 8)
  bounds = (
    leb→le _ _ (both_left (leb 4 (pick (pbit m) (channel_bits m c + 1) (channel_bits m c))) (leb (pick (pbit m) (channel_bits m c + 1) (channel_bits m c)) 8) in_range),
    leb→le _ _ (both_right (leb 4 (pick (pbit m) (channel_bits m c + 1) (channel_bits m c))) (leb (pick (pbit m) (channel_bits m c + 1) (channel_bits m c)) 8) in_range),
  )

  -- t tells whether the mode has P bits
  module _ (row : Mode) (er : row ≡ mode_row m) (v : ℕ → ℕ) (t : Bool) (et : t ≡ either (eqb row.ends 1) (eqb row.shared 1)) where
    pub p_bit_told : t ≡ has_pbit m v
    unfolding has_pbit endpoint_pbits shared_pbits
    p_bit_told = et ∙ ap (λ (x : Mode). either (eqb x.ends 1) (eqb x.shared 1)) er

    told : t ≡ pbit m
    unfolding pbit endpoint_pbits shared_pbits
    told = et ∙ ap (λ (x : Mode). either (eqb x.ends 1) (eqb x.shared 1)) er

    pub with_range : t ≡ true → (4 ≤ w + 1) × (w + 1 ≤ 8)
    with_range e = let b = rw (sym told ∙ e) at bounds in (omega arith, omega arith)

    pub without_range : t ≡ false → (4 ≤ w) × (w ≤ 8)
    without_range e = let b = rw (sym told ∙ e) at bounds in (omega arith, omega arith)

-- ---- a channel by its bits

module _ (m : ℕ) (v : ℕ → ℕ) (w : Mode) (e : w ≡ mode_row m) (h : m < 8) (j n x r : ℕ) where
  pub colour_bits_lem : (c : ℕ) → c < 3 → x ≡ w.colour → x ≡ channel_bits m c
  unfolding channel_bits colour_bits
  colour_bits_lem c l ex = ex ∙ ap (λ (u : Mode). u.colour) e ∙ rw (ne_eqb c 3 (λ q. omega arith))

  pub alpha_bits_lem : x ≡ w.alpha → x ≡ channel_bits m 3
  unfolding channel_bits alpha_bits
  alpha_bits_lem ex = ex ∙ ap (λ (u : Mode). u.alpha) e

  pub colour_end : (c : ℕ) → c < 3 → x ≡ w.colour → r ≡ widened_end m v x j n c → r ≡ end_channel m v j n c
  unfolding end_channel colour_bits
  colour_end c l ex er = er ∙ ap (λ (y : ℕ). widened_end m v y j n c) (ex ∙ ap (λ (u : Mode). u.colour) e) ∙ rw (ne_eqb c 3 (λ q. omega arith))

  pub alpha_end : (w.alpha ≡ 0 → ⊥) → x ≡ w.alpha → r ≡ widened_end m v x j n 3 → r ≡ end_channel m v j n 3
  unfolding end_channel alpha_bits
  alpha_end z ex er =
      er ∙ ap (λ (y : ℕ). widened_end m v y j n 3) (ex ∙ ap (λ (u : Mode). u.alpha) e)
      ∙ rw (ne_eqb (mode_row m).alpha 0 (λ q. z (ap (λ (u : Mode). u.alpha) e ∙ q)))

  pub opaque : w.alpha ≡ 0 → 255 ≡ end_channel m v j n 3
  unfolding end_channel alpha_bits
  opaque z = rw (sym (ap (λ (u : Mode). u.alpha) e) ∙ z)

all_coloured : T (all (λ m. ltb 0 (colour_bits m)) 8)
unfolding colour_bits
all_coloured = tt

pub coloured : (m : ℕ) (w : Mode) (x : ℕ) → w ≡ mode_row m → m < 8 → x ≡ w.colour → 0 < x
unfolding colour_bits
coloured m w x e h ex = rw (ex ∙ ap (λ (u : Mode). u.colour) e) (ltb→lt 0 (colour_bits m) (each (λ n. ltb 0 (colour_bits n)) 8 all_coloured m h))

-- the ends of a block are bytes
pub end_byte : (B : ℕ) → mode_at B < 8 → (j e c : ℕ) → j < subsets (mode_at B) → e < 2 → c < 4 → end_channel (mode_at B) (field_at B) j e c ≤ 255
end_byte B h = end_most (mode_at B) (field_at B) h (fits B h)

pub turned_lt : (B : ℕ) → mode_at B < 8 → (c : ℕ) → c < 4 → rotated (field_at B 2) c < 4
turned_lt B h c l = rotated_lt (field_at B 2) (rotation_here (mode_at B) (field_at B) h (fits B h)) c l

pub half_lt : (B x : ℕ) → x < 2 * subsets (mode_at B) → x / 2 < subsets (mode_at B)
half_lt B x h = omega arith

pub end_byte_of : (B : ℕ) → mode_at B < 8 → (x c r : ℕ) → x < 2 * subsets (mode_at B) → c < 4 → r ≡ end_channel (mode_at B) (field_at B) (x / 2) (x % 2) c
    → (r ≡ end_channel (mode_at B) (field_at B) (x / 2) (x % 2) c) × (r ≤ 255)
end_byte_of B h x c r l k e = (e, rw e (end_byte B h (x / 2) (x % 2) c (half_lt B x l) (omega arith) k))

-- how many subsets a row has
pub row_subsets : (m : ℕ) (w : Mode) → w ≡ mode_row m → w.subsets ≡ subsets m
unfolding subsets
row_subsets m w e = ap (λ (v : Mode). v.subsets) e
