-- Every channel of a texel is a byte.
-- Assumes nothing.
use mathlib.Core.Path.{◌≡◌, ap, ◌∙◌}
use mathlib.Core.Bool.{Bool, true, false}
use mathlib.Core.List.{[], ◌∷◌}
use Prim.Native.Nat.{ℕ, zero, suc, ◌+◌, ◌-◌, ◌*◌, ◌/◌, ◌%◌, ◌^◌, ◌≤◌, ◌<◌}
use native.Mathlib.Nat.{mul-le-mul_right, mul-add}
use native.Mathlib.Omega.{arith}
use lib.Dec.{T, eqb, eqb→eq}
use lib.ListN.{get_or}
use Rattle.laws.specs.Choice.{pick, both, all}
use Rattle.laws.proofs.Computed.{each}
use Rattle.bits.specs.Field.{field}
use Rattle.bits.proofs.Fields.{field_lt}
use Rattle.pvrtc_texel.specs.Word.{channel_among, three_to_five, four_to_five, alpha_to_four, colour_a, colour_b, punch_through, modulation_at, code_weight, modulation_weight, punched}
use Rattle.pvrtc_texel.specs.Texel.{relative, interpolated, unorm8, modulated, upscaled, texel_at}

-- what a channel of a colour reaches: five bits, alpha four
abbrev pub most_of : ℕ → ℕ
most_of c = pick (eqb c 3) 15 31

channel_most : (c r g b a : ℕ) → r ≤ 31 → g ≤ 31 → b ≤ 31 → a ≤ 15 → channel_among c r g b a ≤ most_of c
channel_most zero r g b a hr hg hb ha = hr
channel_most (suc zero) r g b a hr hg hb ha = hg
channel_most (suc (suc zero)) r g b a hr hg hb ha = hb
channel_most (suc (suc (suc zero))) r g b a hr hg hb ha = ha
channel_most (suc (suc (suc (suc c)))) r g b a hr hg hb ha = zero_most (eqb (suc (suc (suc (suc c)))) 3) where
  zero_most : (t : Bool) → 0 ≤ pick t 15 31
  zero_most true = omega arith
  zero_most false = omega arith

five : (W p : ℕ) → field W p 5 ≤ 31
five W p = let h : field W p 5 < 2 ^ 5 = field_lt W p 5 in omega arith

four : (W p : ℕ) → four_to_five (field W p 4) ≤ 31
four W p = let h : field W p 4 < 2 ^ 4 = field_lt W p 4 in omega arith

three : (W p : ℕ) → three_to_five (field W p 3) ≤ 31
three W p = let h : field W p 3 < 2 ^ 3 = field_lt W p 3 in omega arith

alpha : (W p : ℕ) → alpha_to_four (field W p 3) ≤ 15
alpha W p = let h : field W p 3 < 2 ^ 3 = field_lt W p 3 in omega arith

by_test : (t : Bool) (x y z : ℕ) → x ≤ z → y ≤ z → pick t x y ≤ z
by_test true x y z h l = h
by_test false x y z h l = l

pub colour_b_most : (W c : ℕ) → colour_b W c ≤ most_of c
unfolding colour_b
colour_b_most W c =
    by_test (eqb (field W 63 1) 1) _ _ (most_of c) (channel_most c _ _ _ 15 (five W 58) (five W 53) (five W 48) (omega arith))
    (channel_most c _ _ _ _ (four W 56) (four W 52) (four W 48) (alpha W 60))

pub colour_a_most : (W c : ℕ) → colour_a W c ≤ most_of c
unfolding colour_a
colour_a_most W c =
    by_test (eqb (field W 47 1) 1) _ _ (most_of c) (channel_most c _ _ _ 15 (five W 42) (five W 37) (four W 33) (omega arith))
    (channel_most c _ _ _ _ (four W 40) (four W 36) (three W 33) (alpha W 44))

-- the four weights are sixteen together
sixteen : ℕ → ℕ → Bool
sixteen xr yr = eqb ((4 - xr) * (4 - yr) + xr * (4 - yr) + (4 - xr) * yr + xr * yr) 16

all_sixteen : T (all (λ x. all (sixteen x) 4) 4)
unfolding sixteen
all_sixteen = tt

weights_sum : (xr yr : ℕ) → xr < 4 → yr < 4 → (4 - xr) * (4 - yr) + xr * (4 - yr) + (4 - xr) * yr + xr * yr ≡ 16
unfolding sixteen
weights_sum xr yr h l = eqb→eq _ 16 (each (sixteen xr) 4 (each (λ x. all (sixteen x) 4) 4 all_sixteen xr h) yr l)

spread : (M p q r s : ℕ) → M * (p + q + r + s) ≡ M * p + M * q + M * r + M * s
spread M p q r s = mul-add M (p + q + r) s ∙ ap (λ (n : ℕ). n + M * s) (mul-add M (p + q) r ∙ ap (λ (n : ℕ). n + M * r) (mul-add M p q))

pub interpolated_most : (M xr yr a b c d : ℕ) → xr < 4 → yr < 4 → a ≤ M → b ≤ M → c ≤ M → d ≤ M → interpolated xr yr a b c d ≤ M * 16
unfolding interpolated
interpolated_most M xr yr a b c d hx hy ha hb hc hd =
    let p = (4 - xr) * (4 - yr) in
    let q = xr * (4 - yr) in
    let r = (4 - xr) * yr in
    let s = xr * yr in
    let e1 : a * p ≤ M * p = mul-le-mul_right p ha in
    let e2 : b * q ≤ M * q = mul-le-mul_right q hb in
    let e3 : c * r ≤ M * r = mul-le-mul_right r hc in
    let e4 : d * s ≤ M * s = mul-le-mul_right s hd in
    let k : M * (p + q + r + s) ≡ M * 16 = ap (λ (n : ℕ). M * n) (weights_sum xr yr hx hy) in
    let j : M * (p + q + r + s) ≡ M * p + M * q + M * r + M * s = spread M p q r s in
    omega (arith, e1, e2, e3, e4, k, j)

eight_most : (c v : ℕ) → v ≤ most_of c * 16 → unorm8 c v ≤ 255
unfolding unorm8
eight_most c v = go (eqb c 3) where
  go : (t : Bool) → v ≤ pick t 15 31 * 16 → pick t (v + v / 16) (v / 2 + v / 64) ≤ 255
  go true h = omega arith
  go false h = omega arith

modulated_most : (w a b : ℕ) → w ≤ 8 → a ≤ 255 → b ≤ 255 → modulated w a b ≤ 255
unfolding modulated
modulated_most w a b h ha hb =
    let e1 : a * (8 - w) ≤ 255 * (8 - w) = mul-le-mul_right (8 - w) ha in
    let e2 : b * w ≤ 255 * w = mul-le-mul_right w hb in
    omega (arith, e1, e2)

four_most : (p q k : ℕ) → p ≤ 8 → q ≤ 8 → get_or (0 ∷ p ∷ q ∷ 8 ∷ []) k 0 ≤ 8
four_most p q zero h l = omega arith
four_most p q (suc zero) h l = h
four_most p q (suc (suc zero)) h l = l
four_most p q (suc (suc (suc zero))) h l = omega arith
four_most p q (suc (suc (suc (suc k)))) h l = omega arith

upscaled_most : (n m : ℕ) (word colour : ℕ → ℕ → ℕ) → ((W c : ℕ) → colour W c ≤ most_of c) → (x y c : ℕ) → upscaled n m word colour x y c ≤ 255
unfolding upscaled relative
upscaled_most n m word colour h x y c =
    eight_most c _ (interpolated_most (most_of c) (relative x) (relative y) _ _ _ _ (omega arith) (omega arith) (h _ c) (h _ c) (h _ c) (h _ c))

weights_most : (t : Bool) (k : ℕ) → code_weight t k ≤ 8
unfolding code_weight
weights_most true k = four_most 4 4 k (omega arith) (omega arith)
weights_most false k = four_most 3 5 k (omega arith) (omega arith)

pub weight_most : (W x y : ℕ) → modulation_weight W x y ≤ 8
unfolding modulation_weight
weight_most W x y = weights_most (punch_through W) (modulation_at W x y)

pub modulated_byte : (n m : ℕ) (word : ℕ → ℕ → ℕ) (W i j x y c : ℕ) → modulated (modulation_weight W i j) (upscaled n m word colour_a x y c) (upscaled n m word colour_b x y c) ≤ 255
modulated_byte n m word W i j x y c =
    modulated_most _ _ _ (weight_most W i j) (upscaled_most n m word colour_a colour_a_most x y c) (upscaled_most n m word colour_b colour_b_most x y c)

pub texel_byte : (n m : ℕ) (word : ℕ → ℕ → ℕ) (x y c : ℕ) → texel_at n m word x y c ≤ 255
unfolding texel_at
texel_byte n m word x y c =
    by_test (both (punched (word (x / 4) (y / 4)) (x % 4) (y % 4)) (eqb c 3)) 0 _ 255 (omega arith) (modulated_byte n m word (word (x / 4) (y / 4)) (x % 4) (y % 4) x y c)
