-- What every listed word adds to a texel: images of two words, one with all of red in its colour A and one with none.
-- Assumes nothing.
use mathlib.Core.Path.{◌≡◌, refl, sym, ap₂, ◌∙◌}
use mathlib.Core.Logic.{⊎_elim}
use mathlib.Core.Bool.{Bool, true, false, not}
use mathlib.Core.List.{Memᴰ}
use Prim.Native.Nat.{ℕ, ◌+◌, ◌-◌, ◌*◌, ◌/◌, ◌%◌, ◌^◌, ◌≤◌, ◌<◌}
use native.Mathlib.Nat.{mul-le-mul}
use native.Mathlib.Omega.{arith}
use lib.Dec.{T, eqb, eqb→eq}
use Rattle.laws.specs.Choice.{pick, both, all}
use Rattle.laws.proofs.Computed.{each, both_left, both_right}
use Rattle.bits.specs.Field.{field}
use Rattle.pvrtc_texel.specs.Word.{colour_a, modulation_weight, punched}
use Rattle.pvrtc_texel.specs.Texel.{low_word, high_word, relative, interpolated, unorm8, modulated, upscaled, texel_at}
use Rattle.pvrtc_texel.specs.Counting.{counting_along}
use Rattle.pvrtc_texel.proofs.Local.{which}

-- colour A opaque and black, or with all of red; modulation 0 everywhere
abbrev dull : ℕ
dull = 2 ^ 47

abbrev bright : ℕ
bright = 2 ^ 47 + 31 * 2 ^ 42

abbrev pub lit : Bool → ℕ
lit t = pick t bright dull

red : (t : Bool) → colour_a (lit t) 0 ≡ pick t 31 0
unfolding colour_a field
red true = refl
red false = refl

plain : ℕ → ℕ → ℕ → Bool
unfolding modulation_weight punched
plain W i j = both (eqb (modulation_weight W i j) 0) (not (punched W i j))

all_plain : (t : Bool) → T (all (λ i. all (plain (lit t) i) 4) 4)
unfolding plain field
all_plain true = tt
all_plain false = tt

not-true : (b : Bool) → T (not b) → b ≡ false
not-true true t = absurd t
not-true false t = refl

module _ (t : Bool) (i j : ℕ) (h : i < 4) (l : j < 4) where
  here : T (plain (lit t) i j)
  here = each (plain (lit t) i) 4 (each (λ a. all (plain (lit t) a) 4) 4 (all_plain t) i h) j l

  no_weight : modulation_weight (lit t) i j ≡ 0
  unfolding plain
  no_weight = eqb→eq (modulation_weight (lit t) i j) 0 (both_left (eqb (modulation_weight (lit t) i j) 0) _ here)

  no_punch : punched (lit t) i j ≡ false
  unfolding plain
  no_punch = not-true (punched (lit t) i j) (both_right (eqb (modulation_weight (lit t) i j) 0) _ here)

-- ---- red of a texel where every word is one of the two

module _ (n m : ℕ) (f : ℕ → ℕ → Bool) (x y : ℕ) where
  abbrev sample : ℕ → ℕ → ℕ
  sample X Y = pick (f X Y) 31 0

  reds : upscaled n m (λ X Y. lit (f X Y)) colour_a x y 0
      ≡ unorm8 0 (interpolated (relative x) (relative y) (sample (low_word n x) (low_word m y)) (sample (high_word n x) (low_word m y)) (sample (low_word n x) (high_word m y)) (sample (high_word n x) (high_word m y)))
  unfolding upscaled
  reds = rw (red (f (low_word n x) (low_word m y)), red (f (high_word n x) (low_word m y)), red (f (low_word n x) (high_word m y)), red (f (high_word n x) (high_word m y)))

  shown : texel_at n m (λ X Y. lit (f X Y)) x y 0 ≡ upscaled n m (λ X Y. lit (f X Y)) colour_a x y 0
  unfolding texel_at modulated
  shown =
      let t = f (x / 4) (y / 4) in
      let hx : x % 4 < 4 = omega arith in
      let hy : y % 4 < 4 = omega arith in
      rw (no_punch t (x % 4) (y % 4) hx hy, no_weight t (x % 4) (y % 4) hx hy) (omega arith)

-- ---- a sample with weight shows

least : (s k : ℕ) → s ≡ 31 → 1 ≤ k → 31 ≤ s * k
least s k e h = let l : 31 ≤ s = omega (arith, e) in mul-le-mul {n₂ = s} {m₂ = k} l h

positive : (p q : ℕ) → 1 ≤ p → 1 ≤ q → 1 ≤ p * q
positive p q h l = mul-le-mul {n₂ = p} {m₂ = q} h l

module _ (xr yr a b c d : ℕ) (hx : xr < 4) (hy : yr < 4) where
  interpolated_00 : a ≡ 31 → 31 ≤ interpolated xr yr a b c d
  unfolding interpolated
  interpolated_00 e = omega (arith, least a ((4 - xr) * (4 - yr)) e (positive (4 - xr) (4 - yr) (omega arith) (omega arith)))

  interpolated_10 : b ≡ 31 → (xr ≡ 0 → ⊥) → 31 ≤ interpolated xr yr a b c d
  unfolding interpolated
  interpolated_10 e h = omega (arith, least b (xr * (4 - yr)) e (positive xr (4 - yr) (omega arith) (omega arith)))

  interpolated_01 : c ≡ 31 → (yr ≡ 0 → ⊥) → 31 ≤ interpolated xr yr a b c d
  unfolding interpolated
  interpolated_01 e h = omega (arith, least c ((4 - xr) * yr) e (positive (4 - xr) yr (omega arith) (omega arith)))

  interpolated_11 : d ≡ 31 → (xr ≡ 0 → ⊥) → (yr ≡ 0 → ⊥) → 31 ≤ interpolated xr yr a b c d
  unfolding interpolated
  interpolated_11 e h l = omega (arith, least d (xr * yr) e (positive xr yr (omega arith) (omega arith)))

-- a listed word with all of red shows at least 15 of 255, whatever the others are
module _ (n m : ℕ) (f : ℕ → ℕ → Bool) (x y X Y : ℕ) (i : Memᴰ X (counting_along n x)) (j : Memᴰ Y (counting_along m y)) (on : f X Y ≡ true) where
  part_lt : (z : ℕ) → relative z < 4
  unfolding relative
  part_lt z = omega arith

  hit : (Q R : ℕ) → X ≡ Q → Y ≡ R → sample n m f x y Q R ≡ 31
  hit Q R p q = let e : f Q R ≡ true = ap₂ f (sym p) (sym q) ∙ on in rw e

  sum : 31 ≤ interpolated (relative x) (relative y) (sample n m f x y (low_word n x) (low_word m y)) (sample n m f x y (high_word n x) (low_word m y)) (sample n m f x y (low_word n x) (high_word m y)) (sample n m f x y (high_word n x) (high_word m y))
  sum =
      ⊎_elim
      (λ p. ⊎_elim (λ q. interpolated_00 _ _ _ _ _ _ (part_lt x) (part_lt y) (hit _ _ p q)) (λ q. interpolated_01 _ _ _ _ _ _ (part_lt x) (part_lt y) (hit _ _ p q.0) q.1) (which m y Y j))
      (λ p. ⊎_elim (λ q. interpolated_10 _ _ _ _ _ _ (part_lt x) (part_lt y) (hit _ _ p.0 q) p.1) (λ q. interpolated_11 _ _ _ _ _ _ (part_lt x) (part_lt y) (hit _ _ p.0 q.0) p.1 q.1) (which m y Y j))
      (which n x X i)

  pub some_red : 15 ≤ texel_at n m (λ Q R. lit (f Q R)) x y 0
  unfolding unorm8
  some_red = rw (shown n m f x y, reds n m f x y) (omega (arith, sum))

pub no_red : (n m x y : ℕ) → texel_at n m (λ Q R. lit false) x y 0 ≡ 0
unfolding unorm8 interpolated
no_red n m x y = shown n m (λ Q R. false) x y ∙ reds n m (λ Q R. false) x y ∙ omega arith
