-- Every channel of a texel is a byte, where the fields fit their bits.
-- Assumes nothing.
use mathlib.Core.Path.{◌≡◌, refl, sym, ap, subst, ◌∙◌}
use mathlib.Core.Bool.{Bool, true, false, not}
use mathlib.Core.List.{List, [], ◌∷◌}
use Prim.Native.Nat.{ℕ, zero, suc, ◌+◌, ◌-◌, ◌*◌, ◌/◌, ◌^◌, ◌≤◌, ◌<◌}
use native.Mathlib.Nat.{mul-le-mul_right, lt_of_lt_of_le}
use native.Mathlib.Omega.{arith}
use native.Mathlib.Decide.{dec_lt}
use lib.Arith.{digits_lt}
use lib.Dec.{T, eqb, ltb, leb, leb→le, ltb→lt}
use lib.ListN.{length, get_or, get_or-eq_default}
use lib.Pow.{pow-add, pow_mono, shr_lt}
use borrow.Author.Tests.{lt-ltb, le-ltb, eqb-true, eqb-false, ne_eqb}
use Rattle.laws.specs.Choice.{pick, both, either, all}
use Rattle.laws.proofs.Computed.{each, every, entry, both_left, both_right}
use Rattle.bc7_layout.specs.Modes.{subsets, partition_bits, rotation_bits, colour_bits, alpha_bits, endpoint_pbits, shared_pbits, p_bits, index_bits, secondary_bits, selection_bits}
use Rattle.bc7_layout.specs.Partitions.{subset_of}
use Rattle.bc7_layout.specs.Layout.{endpoint_width, p_bit_width, field_width}
use Rattle.bc7_layout.proofs.Rows.{width_endpoint, width_pbit}
use Rattle.bc7_layout.proofs.Tables.{subset_lt}
use Rattle.bc7_block.specs.Picture.{two_bit_factors, three_bit_factors, four_bit_factors, factor_of, as_byte, mixed, rotated, stored_end, p_bit_of, has_pbit, widened_end, end_channel, primary_factor, secondary_factor, colour_factor, alpha_factor, mixed_at, texel_of}

by_test : (t : Bool) (x y z : ℕ) → (t ≡ true → x ≤ z) → (t ≡ false → y ≤ z) → pick t x y ≤ z
by_test true x y z h l = h refl
by_test false x y z h l = l refl

-- ---- factors

table_most : (xs : List ℕ) → T (every (λ i x. leb x 64) 0 xs) → (k : ℕ) → get_or xs k 0 ≤ 64
table_most xs t k =
    elim (dec_lt k (length xs)) [
      | yes h ↦ leb→le (get_or xs k 0) 64 (entry (λ i x. leb x 64) xs t k h)
      | no h ↦ rw (get_or-eq_default xs 0 {n = k} (omega arith)) (omega arith)
    ]

pub factor_most : (bits i : ℕ) → factor_of bits i ≤ 64
unfolding factor_of
factor_most bits i = go (eqb bits 2) (eqb bits 3) where
  go : (s t : Bool) → get_or (pick s two_bit_factors (pick t three_bit_factors four_bit_factors)) i 0 ≤ 64
  go true t = table_most two_bit_factors tt i
  go false true = table_most three_bit_factors tt i
  go false false = table_most four_bit_factors tt i

mixed_most : (f a b : ℕ) → f ≤ 64 → a ≤ 255 → b ≤ 255 → mixed f a b ≤ 255
unfolding mixed
mixed_most f a b h ha hb =
    let e1 : a * (64 - f) ≤ 255 * (64 - f) = mul-le-mul_right (64 - f) ha in
    let e2 : b * f ≤ 255 * f = mul-le-mul_right f hb in
    omega (arith, e1, e2)

-- ---- ends

byte_most : (w v : ℕ) → 4 ≤ w → w ≤ 8 → v < 2 ^ w → as_byte w v ≤ 255
unfolding as_byte
byte_most w v h l k =
    let e : 8 - w + (2 * w - 8) ≡ w = omega arith in
    let lo : v / 2 ^ (2 * w - 8) < 2 ^ (8 - w) = shr_lt (8 - w) (2 * w - 8) (rw e k) in
    let q : v * 2 ^ (8 - w) + v / 2 ^ (2 * w - 8) < 2 ^ w * 2 ^ (8 - w) = digits_lt k lo in
    let d : w + (8 - w) ≡ 8 = omega arith in
    let r : 2 ^ w * 2 ^ (8 - w) ≡ 2 ^ 8 = sym (pow-add 2 w (8 - w)) ∙ ap (λ (n : ℕ). 2 ^ n) d in
    let u : v * 2 ^ (8 - w) + v / 2 ^ (2 * w - 8) < 2 ^ 8 = subst (λ (n : ℕ). v * 2 ^ (8 - w) + v / 2 ^ (2 * w - 8) < n) r q in
    omega (arith, u)

-- the widths of a mode with its P bit: four to eight; alpha only where there are at most two subsets
abbrev between : ℕ → Bool
between w = both (leb 4 w) (leb w 8)

pbit : ℕ → Bool
unfolding endpoint_pbits shared_pbits
pbit m = either (eqb (endpoint_pbits m) 1) (eqb (shared_pbits m) 1)

sound : ℕ → Bool
unfolding subsets colour_bits alpha_bits pbit
sound m =
    both (between (pick (pbit m) (colour_bits m + 1) (colour_bits m)))
    (both (leb (subsets m) 3)
    (either (eqb (alpha_bits m) 0) (both (between (pick (pbit m) (alpha_bits m + 1) (alpha_bits m))) (leb (subsets m) 2))))

all_sound : T (all sound 8)
unfolding sound
all_sound = tt

turned : ℕ → Bool
unfolding rotated
turned r = all (λ c. ltb (rotated r c) 4) 4

all_turned : T (all turned 4)
unfolding turned
all_turned = tt

pub rotated_lt : (r : ℕ) → r < 4 → (c : ℕ) → c < 4 → rotated r c < 4
unfolding turned
rotated_lt r h c l = ltb→lt (rotated r c) 4 (each (λ k. ltb (rotated r k) 4) 4 (each turned 4 all_turned r h) c l)

or_right : (a b : Bool) → T (either a b) → a ≡ false → T b
or_right a b t e = rw e at t

one_bit : (m j : ℕ) → p_bit_width m j ≤ 1
unfolding p_bit_width
one_bit m j = by_test (ltb j (p_bits m)) 1 0 1 (λ _. omega arith) (λ _. omega arith)

pick_lt : (t : Bool) (x y z : ℕ) → x < z → y < z → pick t x y < z
pick_lt true x y z a b = a
pick_lt false x y z a b = b

all_two : T (all (λ m. leb (rotation_bits m) 2) 8)
unfolding rotation_bits
all_two = tt

two_bits : (m : ℕ) → m < 8 → field_width m 0 2 ≤ 2
unfolding field_width
two_bits m h = leb→le (rotation_bits m) 2 (each (λ n. leb (rotation_bits n) 2) 8 all_two m h)

module _ (m : ℕ) (v : ℕ → ℕ) (h : m < 8) (fits : (k : ℕ) → k < 60 → v k < 2 ^ field_width m (v 1) k) where
  row : T (sound m)
  row = each sound 8 all_sound m h

  colour_row : T (between (pick (pbit m) (colour_bits m + 1) (colour_bits m)))
  unfolding sound
  colour_row = both_left (between (pick (pbit m) (colour_bits m + 1) (colour_bits m))) _ row

  rest_row : T (both (leb (subsets m) 3) (either (eqb (alpha_bits m) 0) (both (between (pick (pbit m) (alpha_bits m + 1) (alpha_bits m))) (leb (subsets m) 2))))
  unfolding sound
  rest_row = both_right (between (pick (pbit m) (colour_bits m + 1) (colour_bits m))) _ row

  few : subsets m ≤ 3
  few = leb→le (subsets m) 3 (both_left (leb (subsets m) 3) _ rest_row)

  alpha_row : (alpha_bits m ≡ 0 → ⊥) → T (both (between (pick (pbit m) (alpha_bits m + 1) (alpha_bits m))) (leb (subsets m) 2))
  alpha_row z = or_right (eqb (alpha_bits m) 0) _ (both_right (leb (subsets m) 3) _ rest_row) (ne_eqb (alpha_bits m) 0 z)

  endpoint_fits : (i : ℕ) → i < 18 → v (4 + i) < 2 ^ endpoint_width m i
  endpoint_fits i l =
      let e : 4 + i - 4 ≡ i = omega arith in
      let w : endpoint_width m (4 + i - 4) ≡ field_width m (v 1) (4 + i) = width_endpoint m (v 1) (4 + i) (omega arith) (omega arith) in
      rw (sym (ap (endpoint_width m) e) ∙ w) (fits (4 + i) (omega arith))

  pbit_fits : (i : ℕ) → i < 6 → v (22 + i) < 2
  pbit_fits i l =
      let e : 22 + i - 22 ≡ i = omega arith in
      let w : p_bit_width m (22 + i - 22) ≡ field_width m (v 1) (22 + i) = width_pbit m (v 1) (22 + i) (omega arith) (omega arith) in
      lt_of_lt_of_le (fits (22 + i) (omega arith)) (pow_mono {j = 1} (subst (λ (n : ℕ). n ≤ 1) w (one_bit m (22 + i - 22))))

  -- a stored number of w bits, with its P bit below where there is one
  widened_most : (w j e c : ℕ) → j < subsets m → e < 2 → stored_end m v j e c < 2 ^ w
      → T (between (pick (pbit m) (w + 1) w)) → widened_end m v w j e c ≤ 255
  unfolding widened_end has_pbit pbit p_bit_of
  widened_most w j e c hj he hs = go (either (eqb (endpoint_pbits m) 1) (eqb (shared_pbits m) 1)) where
    p_small : v (22 + pick (eqb (endpoint_pbits m) 1) (2 * j + e) j) < 2
    p_small = pbit_fits (pick (eqb (endpoint_pbits m) 1) (2 * j + e) j) (pick_lt (eqb (endpoint_pbits m) 1) (2 * j + e) j 6 (omega (arith, few)) (omega (arith, few)))

    go : (t : Bool) → T (between (pick t (w + 1) w))
        → pick t (as_byte (w + 1) (stored_end m v j e c * 2 + v (22 + pick (eqb (endpoint_pbits m) 1) (2 * j + e) j))) (as_byte w (stored_end m v j e c)) ≤ 255
    go true b =
        byte_most (w + 1) _ (leb→le 4 (w + 1) (both_left (leb 4 (w + 1)) _ b)) (leb→le (w + 1) 8 (both_right (leb 4 (w + 1)) _ b))
        (let q : 2 ^ (w + 1) ≡ 2 ^ w * 2 = pow-add 2 w 1 in omega (arith, p_small, hs, q))
    go false b = byte_most w _ (leb→le 4 w (both_left (leb 4 w) _ b)) (leb→le w 8 (both_right (leb 4 w) _ b)) hs

  colour_fits : (j e c : ℕ) → j < subsets m → e < 2 → c < 3 → stored_end m v j e c < 2 ^ colour_bits m
  unfolding stored_end endpoint_width
  colour_fits j e c hj he hc =
      let t : c * (2 * subsets m) ≤ 2 * (2 * subsets m) = let u : c ≤ 2 = omega arith in mul-le-mul_right (2 * subsets m) u in
      let i : c * (2 * subsets m) + 2 * j + e < 6 * subsets m = omega (arith, t) in
      rw (lt-ltb (c * (2 * subsets m) + 2 * j + e) (6 * subsets m) i) at (endpoint_fits (c * (2 * subsets m) + 2 * j + e) (omega (arith, i, few)))

  alpha_fits : (j e : ℕ) → j < subsets m → e < 2 → subsets m ≤ 2 → stored_end m v j e 3 < 2 ^ alpha_bits m
  unfolding stored_end endpoint_width
  alpha_fits j e hj he hn =
      let i : 6 * subsets m ≤ 3 * (2 * subsets m) + 2 * j + e = omega arith in
      let k : 3 * (2 * subsets m) + 2 * j + e < 8 * subsets m = omega arith in
      rw (le-ltb (3 * (2 * subsets m) + 2 * j + e) (6 * subsets m) i, lt-ltb (3 * (2 * subsets m) + 2 * j + e) (8 * subsets m) k)
      at (endpoint_fits (3 * (2 * subsets m) + 2 * j + e) (omega (arith, k)))

  pub end_most : (j e c : ℕ) → j < subsets m → e < 2 → c < 4 → end_channel m v j e c ≤ 255
  unfolding end_channel
  end_most j e c hj he hc =
      by_test (eqb c 3) _ _ 255
      (λ q. let z : c ≡ 3 = eqb-true c 3 q in rw z
      (by_test (eqb (alpha_bits m) 0) 255 _ 255 (λ _. omega arith)
      (λ y. let a = alpha_row (eqb-false (alpha_bits m) 0 y) in
      let n : subsets m ≤ 2 = leb→le (subsets m) 2 (both_right (between (pick (pbit m) (alpha_bits m + 1) (alpha_bits m))) _ a) in
      widened_most (alpha_bits m) j e 3 hj he (alpha_fits j e hj he n) (both_left (between (pick (pbit m) (alpha_bits m + 1) (alpha_bits m))) _ a))))
      (λ q. let z : c ≡ 3 → ⊥ = eqb-false c 3 q in
      widened_most (colour_bits m) j e c hj he (colour_fits j e c hj he (omega arith)) colour_row)

  primary_most : (i : ℕ) → primary_factor m v i ≤ 64
  unfolding primary_factor
  primary_most i = factor_most (index_bits m) (v (28 + i))

  secondary_most : (i : ℕ) → secondary_factor m v i ≤ 64
  unfolding secondary_factor
  secondary_most i = factor_most (secondary_bits m) (v (44 + i))

  colour_factor_most : (i : ℕ) → colour_factor m v i ≤ 64
  unfolding colour_factor
  colour_factor_most i = by_test (both (eqb (selection_bits m) 1) (eqb (v 3) 1)) _ _ 64 (λ _. secondary_most i) (λ _. primary_most i)

  alpha_factor_most : (i : ℕ) → alpha_factor m v i ≤ 64
  unfolding alpha_factor
  alpha_factor_most i = by_test (both (ltb 0 (secondary_bits m)) (either (eqb (selection_bits m) 0) (eqb (v 3) 0))) _ _ 64 (λ _. secondary_most i) (λ _. primary_most i)

  partition_here : v 1 < 2 ^ partition_bits m
  unfolding field_width
  partition_here = fits 1 (omega arith)

  mixed_at_most : (i c : ℕ) → i < 16 → c < 4 → mixed_at m v i c ≤ 255
  unfolding mixed_at
  mixed_at_most i c hi hc =
      let s : subset_of (subsets m) (v 1) i < subsets m = subset_lt m (v 1) i h partition_here hi in
      mixed_most _ _ _ (by_test (eqb c 3) _ _ 64 (λ _. alpha_factor_most i) (λ _. colour_factor_most i))
      (end_most _ 0 c s (omega arith) hc) (end_most _ 1 c s (omega arith) hc)

  pub rotation_here : v 2 < 4
  unfolding field_width
  rotation_here = lt_of_lt_of_le (fits 2 (omega arith)) (pow_mono {j = 2} (two_bits m h))

  pub texel_byte : (i c : ℕ) → i < 16 → c < 4 → texel_of m v i c ≤ 255
  unfolding texel_of
  texel_byte i c hi hc = mixed_at_most i (rotated (v 2) c) hi (rotated_lt (v 2) rotation_here c hc)
