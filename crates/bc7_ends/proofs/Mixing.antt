-- Four channels mixed in four lanes of one number are the channels mixed one by one.
-- Assumes nothing.
use mathlib.Core.Path.{◌≡◌, refl, sym, ap, ap₂, ◌∙◌}
use mathlib.Core.Bool.{Bool, true, false}
use mathlib.Core.List.{List, [], ◌∷◌}
use Prim.Native.Nat.{ℕ, zero, suc, ◌+◌, ◌-◌, ◌*◌, ◌/◌, ◌%◌, ◌≤◌, ◌<◌}
use native.Mathlib.Nat.{mul-le-mul_right, add-mul, mul_right_comm, zero-mul, div-div-eq-div-mul}
use native.Mathlib.Omega.{arith}
use native.Mathlib.Decide.{ℕ_discrete}
use lib.Dec.{eqb}
use borrow.Author.Tests.{eqb-true, eqb-false}
use Rattle.laws.specs.Choice.{pick}
use Rattle.bc7_block.specs.Picture.{mixed, rotated, end_channel}
use Rattle.bc7_ends.specs.inner.Lanes.{four_lanes, by_lane, colour_lane, alpha_lane, three_of, subset_line, Line255, sum_on, lane_byte}

-- ---- lanes

pub lanes_most : (a b c d : ℕ) → a ≤ 255 → b ≤ 255 → c ≤ 255 → d ≤ 255 → four_lanes a b c d ≤ 71777214294589695
unfolding four_lanes
lanes_most a b c d ha hb hc hd = omega arith

lanes_times : (a b c d g : ℕ) → four_lanes a b c d * g ≡ four_lanes (a * g) (b * g) (c * g) (d * g)
unfolding four_lanes
lanes_times a b c d g =
    add-mul (a + b * 65536 + c * 4294967296) (d * 281474976710656) g
    ∙ ap₂ ◌+◌ (add-mul (a + b * 65536) (c * 4294967296) g ∙ ap₂ ◌+◌ (add-mul a (b * 65536) g ∙ ap (λ (n : ℕ). a * g + n) (mul_right_comm b 65536 g)) (mul_right_comm c 4294967296 g))
    (mul_right_comm d 281474976710656 g)

lanes_plus : (a b c d e f g h : ℕ) → four_lanes a b c d + four_lanes e f g h ≡ four_lanes (a + e) (b + f) (c + g) (d + h)
unfolding four_lanes
lanes_plus a b c d e f g h = omega arith

rounded : (p q r s : ℕ) → four_lanes p q r s + 9007336695791648 ≡ four_lanes (p + 32) (q + 32) (r + 32) (s + 32)
unfolding four_lanes
rounded p q r s = omega arith

-- a channel's products and its rounding
sum : ℕ → ℕ → ℕ → ℕ
sum f a b = a * (64 - f) + b * f + 32

-- one lane of a line's sum
lane : (f g a b x y : ℕ) → ℕ
lane f g a b x y = a * (64 - f) + b * f + (x * (64 - g) + y * g) + 32

sum_lanes : (f g : ℕ) (a b x y : ℕ → ℕ)
    → by_lane a * (64 - f) + by_lane b * f + (by_lane x * (64 - g) + by_lane y * g) + 9007336695791648 ≡ by_lane (λ c. lane f g (a c) (b c) (x c) (y c))
unfolding lane
sum_lanes f g a b x y =
    ap (λ (n : ℕ). n + 9007336695791648)
    (ap₂ ◌+◌ (ap₂ ◌+◌ (lanes_times (a 0) (a 1) (a 2) (a 3) (64 - f)) (lanes_times (b 0) (b 1) (b 2) (b 3) f) ∙ lanes_plus _ _ _ _ _ _ _ _)
    (ap₂ ◌+◌ (lanes_times (x 0) (x 1) (x 2) (x 3) (64 - g)) (lanes_times (y 0) (y 1) (y 2) (y 3) g) ∙ lanes_plus _ _ _ _ _ _ _ _)
    ∙ lanes_plus _ _ _ _ _ _ _ _)
    ∙ rounded _ _ _ _

-- of a lane that holds a colour, or alpha
lane_one : (t : Bool) (f g a b x y : ℕ) → lane f g (pick t 0 a) (pick t 0 b) (pick t x 0) (pick t y 0) ≡ sum (pick t g f) (pick t x a) (pick t y b)
unfolding lane sum
lane_one true f g a b x y = let p = zero-mul (64 - f) in let q = zero-mul f in omega arith
lane_one false f g a b x y = let p = zero-mul (64 - g) in let q = zero-mul g in omega arith

sum_most : (f a b : ℕ) → f ≤ 64 → a ≤ 255 → b ≤ 255 → sum f a b < 16384
unfolding sum
sum_most f a b h ha hb =
    let p : a * (64 - f) ≤ 255 * (64 - f) = mul-le-mul_right (64 - f) ha in
    let q : b * f ≤ 255 * f = mul-le-mul_right f hb in
    omega arith

-- the bytes of lanes below 2^14
low_byte : (p k : ℕ) → p < 16384 → (p + k * 65536) / 64 % 256 ≡ p / 64
low_byte p k h = let e : (p + k * 65536) / 64 ≡ p / 64 + k * 1024 = omega arith in rw e (omega arith)

next_lane : (p k d : ℕ) → p < 16384 → (p + k * 65536) / (65536 * d) ≡ k / d
next_lane p k d h =
    let e : (p + k * 65536) / 65536 ≡ k = omega arith in
    sym (div-div-eq-div-mul (p + k * 65536) 65536 d) ∙ ap (λ (n : ℕ). n / d) e

byte_of : (p q r s : ℕ) → p < 16384 → q < 16384 → r < 16384 → s < 16384 → (c : ℕ) → c < 4
    → lane_byte (four_lanes p q r s) c ≡ pick (eqb c 0) (p / 64) (pick (eqb c 1) (q / 64) (pick (eqb c 2) (r / 64) (s / 64)))
unfolding lane_byte four_lanes
byte_of p q r s hp hq hr hs c hc =
    let e1 : p + q * 65536 + r * 4294967296 + s * 281474976710656 ≡ p + (q + (r + s * 65536) * 65536) * 65536 = omega arith in
    let k = q + (r + s * 65536) * 65536 in
    let n : (p + k * 65536) / 4194304 ≡ k / 64 = next_lane p k 64 hp in
    let n2 : (p + k * 65536) / 274877906944 ≡ (r + s * 65536) / 64 = next_lane p k 4194304 hp ∙ next_lane q (r + s * 65536) 64 hq in
    let n3 : (p + k * 65536) / 18014398509481984 ≡ s / 64 = next_lane p k 274877906944 hp ∙ next_lane q (r + s * 65536) 4194304 hq ∙ next_lane r s 64 hr in
    let z : s / 64 % 256 ≡ s / 64 = omega arith in
    let b0 : (p + k * 65536) / 64 % 256 ≡ p / 64 = low_byte p k hp in
    let b1 : (p + k * 65536) / 4194304 % 256 ≡ q / 64 = ap (λ (x : ℕ). x % 256) n ∙ low_byte q (r + s * 65536) hq in
    let b2 : (p + k * 65536) / 274877906944 % 256 ≡ r / 64 = ap (λ (x : ℕ). x % 256) n2 ∙ low_byte r s hr in
    let b3 : (p + k * 65536) / 18014398509481984 % 256 ≡ s / 64 = ap (λ (x : ℕ). x % 256) n3 ∙ z in
    rw e1 (λ t. pick (eqb c 0) (b0 t) (pick (eqb c 1) (b1 t) (pick (eqb c 2) (b2 t) (b3 t))))

by_lane_lem : (f : ℕ → ℕ) (c : ℕ) → c < 4 → pick (eqb c 0) (f 0) (pick (eqb c 1) (f 1) (pick (eqb c 2) (f 2) (f 3))) ≡ f c
by_lane_lem f c h =
    elim (ℕ_discrete c 0) [
      | yes e ↦ rw e
      | no a ↦ elim (ℕ_discrete c 1) [
        | yes e ↦ rw e
        | no b ↦ elim (ℕ_discrete c 2) [
          | yes e ↦ rw e
          | no d ↦ let e : c ≡ 3 = omega (arith, a, b, d) in rw e
        ]
      ]
    ]

pick_most : (t : Bool) (a b : ℕ) → a ≤ 64 → b ≤ 64 → pick t a b ≤ 64
pick_most true a b p q = p
pick_most false a b p q = q

pick_le : (t : Bool) (a b n : ℕ) → a ≤ n → b ≤ n → pick t a b ≤ n
pick_le true a b n p q = p
pick_le false a b n p q = q

each_of : (a b c d : ℕ) → a ≤ 71777214294589695 → b ≤ 71777214294589695 → c ≤ 71777214294589695 → d ≤ 71777214294589695 → Line255 (a ∷ b ∷ c ∷ d ∷ [])
each_of a b c d ha hb hc hd zero = ha
each_of a b c d ha hb hc hd (suc zero) = hb
each_of a b c d ha hb hc hd (suc (suc zero)) = hc
each_of a b c d ha hb hc hd (suc (suc (suc zero))) = hd
each_of a b c d ha hb hc hd (suc (suc (suc (suc k)))) = omega arith

-- ---- a line's lanes

module _ (m : ℕ) (v : ℕ → ℕ) (j f g : ℕ) where
  -- the products of the channel that comes out as channel c
  abbrev channel : ℕ → ℕ
  channel c = sum (pick (eqb (rotated (v 2) c) 3) g f) (end_channel m v j 0 (rotated (v 2) c)) (end_channel m v j 1 (rotated (v 2) c))

  -- where alpha comes out, alpha
  alpha_here : (e k : ℕ) → pick (eqb k 3) (end_channel m v j e 3) (end_channel m v j e k) ≡ end_channel m v j e k
  alpha_here e k = go (eqb k 3) refl where
    go : (t : Bool) → eqb k 3 ≡ t → pick t (end_channel m v j e 3) (end_channel m v j e k) ≡ end_channel m v j e k
    go true q = ap (end_channel m v j e) (sym (eqb-true k 3 q))
    go false q = refl

  lane_is : (c : ℕ)
      → lane f g (colour_lane (v 2) (end_channel m v j 0) c) (colour_lane (v 2) (end_channel m v j 1) c) (alpha_lane (v 2) (end_channel m v j 0 3) c) (alpha_lane (v 2) (end_channel m v j 1 3) c)
      ≡ channel c
  unfolding colour_lane alpha_lane
  lane_is c =
      let k = rotated (v 2) c in
      lane_one (eqb k 3) f g (end_channel m v j 0 k) (end_channel m v j 1 k) (end_channel m v j 0 3) (end_channel m v j 1 3)
      ∙ ap₂ (sum (pick (eqb k 3) g f)) (alpha_here 0 k) (alpha_here 1 k)

  line_sum : sum_on (subset_line m v j) f g ≡ by_lane channel
  unfolding sum_on subset_line
  line_sum =
      sum_lanes f g (colour_lane (v 2) (end_channel m v j 0)) (colour_lane (v 2) (end_channel m v j 1)) (alpha_lane (v 2) (end_channel m v j 0 3)) (alpha_lane (v 2) (end_channel m v j 1 3))
      ∙ (λ t. four_lanes (lane_is 0 t) (lane_is 1 t) (lane_is 2 t) (lane_is 3 t))

  -- the bytes of a line's sum are its channels mixed
  pub mixed_byte : f ≤ 64 → g ≤ 64 → ((e c : ℕ) → e < 2 → c < 4 → end_channel m v j e c ≤ 255) → ((c : ℕ) → c < 4 → rotated (v 2) c < 4) → (c : ℕ) → c < 4
      → lane_byte (sum_on (subset_line m v j) f g) c ≡ mixed (pick (eqb (rotated (v 2) c) 3) g f) (end_channel m v j 0 (rotated (v 2) c)) (end_channel m v j 1 (rotated (v 2) c))
  unfolding mixed sum
  mixed_byte hf hg most turn c hc =
      let small : (d : ℕ) → d < 4 → channel d < 16384 =
      λ d l. sum_most _ _ _ (pick_most (eqb (rotated (v 2) d) 3) g f hg hf) (most 0 _ (omega arith) (turn d l)) (most 1 _ (omega arith) (turn d l)) in
      ap (λ (s : ℕ). lane_byte s c) line_sum
      ∙ byte_of (channel 0) (channel 1) (channel 2) (channel 3) (small 0 (omega arith)) (small 1 (omega arith)) (small 2 (omega arith)) (small 3 (omega arith)) c hc
      ∙ by_lane_lem (λ d. channel d / 64) c hc

  -- no lane of a line is above 255
  pub line_most : ((e c : ℕ) → e < 2 → c < 4 → end_channel m v j e c ≤ 255) → ((c : ℕ) → c < 4 → rotated (v 2) c < 4) → Line255 (subset_line m v j)
  unfolding subset_line colour_lane alpha_lane
  line_most most turn k =
      let colour : (e c : ℕ) → e < 2 → c < 4 → pick (eqb (rotated (v 2) c) 3) 0 (end_channel m v j e (rotated (v 2) c)) ≤ 255 =
      λ e c h l. pick_le (eqb (rotated (v 2) c) 3) 0 (end_channel m v j e (rotated (v 2) c)) 255 (omega arith) (most e _ h (turn c l)) in
      let alpha : (e c : ℕ) → e < 2 → pick (eqb (rotated (v 2) c) 3) (end_channel m v j e 3) 0 ≤ 255 =
      λ e c h. pick_le (eqb (rotated (v 2) c) 3) (end_channel m v j e 3) 0 255 (most e 3 h (omega arith)) (omega arith) in
      each_of _ _ _ _
      (lanes_most _ _ _ _ (colour 0 0 (omega arith) (omega arith)) (colour 0 1 (omega arith) (omega arith)) (colour 0 2 (omega arith) (omega arith)) (colour 0 3 (omega arith) (omega arith)))
      (lanes_most _ _ _ _ (colour 1 0 (omega arith) (omega arith)) (colour 1 1 (omega arith) (omega arith)) (colour 1 2 (omega arith) (omega arith)) (colour 1 3 (omega arith) (omega arith)))
      (lanes_most _ _ _ _ (alpha 0 0 (omega arith)) (alpha 0 1 (omega arith)) (alpha 0 2 (omega arith)) (alpha 0 3 (omega arith)))
      (lanes_most _ _ _ _ (alpha 1 0 (omega arith)) (alpha 1 1 (omega arith)) (alpha 1 2 (omega arith)) (alpha 1 3 (omega arith))) k

-- ---- the lanes of a rotation, from three colours and alpha

module _ (r x y z : ℕ) where
  pub lanes_still : r ≡ 0 → four_lanes x y z 0 ≡ by_lane (colour_lane r (three_of x y z))
  unfolding colour_lane rotated three_of
  lanes_still e = rw e

  pub lanes_red : r ≡ 1 → four_lanes 0 y z x ≡ by_lane (colour_lane r (three_of x y z))
  unfolding colour_lane rotated three_of
  lanes_red e = rw e

  pub lanes_green : r ≡ 2 → four_lanes x 0 z y ≡ by_lane (colour_lane r (three_of x y z))
  unfolding colour_lane rotated three_of
  lanes_green e = rw e

  pub lanes_blue : r ≡ 3 → four_lanes x y 0 z ≡ by_lane (colour_lane r (three_of x y z))
  unfolding colour_lane rotated three_of
  lanes_blue e = rw e

module _ (r a : ℕ) where
  pub alpha_still : r ≡ 0 → four_lanes 0 0 0 a ≡ by_lane (alpha_lane r a)
  unfolding alpha_lane rotated
  alpha_still e = rw e

  pub alpha_red : r ≡ 1 → four_lanes a 0 0 0 ≡ by_lane (alpha_lane r a)
  unfolding alpha_lane rotated
  alpha_red e = rw e

  pub alpha_green : r ≡ 2 → four_lanes 0 a 0 0 ≡ by_lane (alpha_lane r a)
  unfolding alpha_lane rotated
  alpha_green e = rw e

  pub alpha_blue : r ≡ 3 → four_lanes 0 0 a 0 ≡ by_lane (alpha_lane r a)
  unfolding alpha_lane rotated
  alpha_blue e = rw e

-- the colours of an end, given one by one
three_are : (x y z : ℕ) (g : ℕ → ℕ) → x ≡ g 0 → y ≡ g 1 → z ≡ g 2 → (k : ℕ) → k < 3 → three_of x y z k ≡ g k
unfolding three_of
three_are x y z g ex ey ez k l =
    elim (ℕ_discrete k 0) [
      | yes e ↦ rw e ex
      | no a ↦ elim (ℕ_discrete k 1) [ yes e ↦ rw e ey | no b ↦ let e : k ≡ 2 = omega (arith, a, b) in rw e ez ]
    ]

lane_are : (t : Bool) (k : ℕ) (f g : ℕ → ℕ) → eqb k 3 ≡ t → k < 4 → ((i : ℕ) → i < 3 → f i ≡ g i) → pick t 0 (f k) ≡ pick t 0 (g k)
lane_are true k f g e l h = refl
lane_are false k f g e l h = h k (let z = eqb-false k 3 e in omega (arith, z))

pub colours_are : (r x y z : ℕ) (g : ℕ → ℕ) → ((c : ℕ) → c < 4 → rotated r c < 4) → x ≡ g 0 → y ≡ g 1 → z ≡ g 2 → by_lane (colour_lane r (three_of x y z)) ≡ by_lane (colour_lane r g)
unfolding colour_lane
colours_are r x y z g turn ex ey ez =
    let one : (c : ℕ) → c < 4 → colour_lane r (three_of x y z) c ≡ colour_lane r g c =
    λ c l. lane_are (eqb (rotated r c) 3) (rotated r c) (three_of x y z) g refl (turn c l) (three_are x y z g ex ey ez) in
    λ t. four_lanes (one 0 (omega arith) t) (one 1 (omega arith) t) (one 2 (omega arith) t) (one 3 (omega arith) t)

-- the ends of subset j, given one by one; end x is end x % 2 of subset x / 2
pub line_is : (m : ℕ) (v : ℕ → ℕ) (r j a b c d x y : ℕ) → r ≡ v 2 → a ≡ by_lane (colour_lane r (end_channel m v (2 * j / 2) (2 * j % 2)))
    → b ≡ by_lane (colour_lane r (end_channel m v ((2 * j + 1) / 2) ((2 * j + 1) % 2))) → x ≡ end_channel m v (2 * j / 2) (2 * j % 2) 3 → c ≡ by_lane (alpha_lane r x)
    → y ≡ end_channel m v ((2 * j + 1) / 2) ((2 * j + 1) % 2) 3 → d ≡ by_lane (alpha_lane r y) → ◌≡◌ {A = List ℕ} (a ∷ b ∷ c ∷ d ∷ []) (subset_line m v j)
unfolding subset_line
line_is m v r j a b c d x y er ea eb ex ec ey ed =
    let j0 : 2 * j / 2 ≡ j = omega arith in
    let e0 : 2 * j % 2 ≡ 0 = omega arith in
    let j1 : (2 * j + 1) / 2 ≡ j = omega arith in
    let e1 : (2 * j + 1) % 2 ≡ 1 = omega arith in
    let qa : a ≡ by_lane (colour_lane (v 2) (end_channel m v j 0)) = ea ∙ (λ t. by_lane (colour_lane (er t) (end_channel m v (j0 t) (e0 t)))) in
    let qb : b ≡ by_lane (colour_lane (v 2) (end_channel m v j 1)) = eb ∙ (λ t. by_lane (colour_lane (er t) (end_channel m v (j1 t) (e1 t)))) in
    let qc : c ≡ by_lane (alpha_lane (v 2) (end_channel m v j 0 3)) = ec ∙ (λ t. by_lane (alpha_lane (er t) ((ex ∙ (λ s. end_channel m v (j0 s) (e0 s) 3)) t))) in
    let qd : d ≡ by_lane (alpha_lane (v 2) (end_channel m v j 1 3)) = ed ∙ (λ t. by_lane (alpha_lane (er t) ((ey ∙ (λ s. end_channel m v (j1 s) (e1 s) 3)) t))) in
    λ t. qa t ∷ qb t ∷ qc t ∷ qd t ∷ []
