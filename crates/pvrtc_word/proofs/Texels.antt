-- A texel from numbers of four channels, step by step.
-- Assumes nothing.
use mathlib.Core.Path.{◌≡◌, refl, sym, ap, subst, ◌∙◌}
use mathlib.Core.Bool.{Bool, true, false}
use Prim.Native.Nat.{ℕ, zero, suc, ◌+◌, ◌*◌, ◌/◌, ◌%◌, ◌^◌, ◌≤◌, ◌<◌}
use native.Mathlib.Omega.{arith}
use lib.Dec.{eqb}
use Rattle.laws.specs.Choice.{pick, both}
use Rattle.bits.specs.Field.{field}
use Rattle.pvrtc_texel.specs.Word.{punch_through, modulation_at, code_weight, modulation_weight, punched}
use Rattle.pvrtc_texel.specs.Texel.{unorm8, modulated}
use Rattle.pvrtc_word.specs.inner.Lanes.{lane, byte_of, rgba_of}
use Rattle.pvrtc_word.specs.declared.Rgba.{Rgba}

-- ---- weights, by the four modulations

pub punched_weight : (m : ℕ) → m < 4 → (m + 1) / 2 * 4 ≡ code_weight true m
unfolding code_weight
punched_weight zero h = refl
punched_weight (suc zero) h = refl
punched_weight (suc (suc zero)) h = refl
punched_weight (suc (suc (suc zero))) h = refl
punched_weight (suc (suc (suc (suc m)))) h = absurd (omega arith)

pub plain_weight : (m : ℕ) → m < 4 → 2 * m + (m + 1) / 2 ≡ code_weight false m
unfolding code_weight
plain_weight zero h = refl
plain_weight (suc zero) h = refl
plain_weight (suc (suc zero)) h = refl
plain_weight (suc (suc (suc zero))) h = refl
plain_weight (suc (suc (suc (suc m)))) h = absurd (omega arith)

-- ---- channels

pub lane_0 : (v : ℕ) → v % 65536 ≡ lane v 0
unfolding lane field
lane_0 v = omega arith

colour_at_lem : (t : Bool) (v : ℕ) → v ≡ pick (both t false) 0 v
colour_at_lem true v = refl
colour_at_lem false v = refl

alpha_at : (t : Bool) (v : ℕ) → pick t 0 v ≡ pick (both t true) 0 v
alpha_at true v = refl
alpha_at false v = refl

module _ (a b w x y : ℕ) (punch : Bool) (m k : ℕ) (p : punch ≡ punch_through w) (e : m ≡ modulation_at w x y) (f : k ≡ code_weight punch m) where
  weight_is : k ≡ modulation_weight w x y
  unfolding modulation_weight
  weight_is = f ∙ rw (p, e)

  -- the samples of channel c are small enough, as the code has them
  pub fits : ((c : ℕ) → c < 4 → modulated (modulation_weight w x y) (unorm8 c (lane a c)) (unorm8 c (lane b c)) ≤ 255)
      → (c : ℕ) → c < 4 → {u v : ℕ} → u ≡ lane a c → v ≡ lane b c → modulated k (unorm8 c u) (unorm8 c v) ≤ 255
  fits small c l g h = rw (weight_is, g, h) (small c l)

  colour_is : (c : ℕ) → eqb c 3 ≡ false → {v : ℕ} → v ≡ modulated k (unorm8 c (lane a c)) (unorm8 c (lane b c)) → v ≡ byte_of a b (modulation_weight w x y) (punched w x y) c
  unfolding byte_of
  colour_is c n g = g ∙ rw (weight_is, n) (colour_at_lem (punched w x y) _)

  alpha_is : (clear : Bool) → clear ≡ both punch (eqb m 2) → {v : ℕ} → v ≡ pick clear 0 (modulated k (unorm8 3 (lane a 3)) (unorm8 3 (lane b 3)))
      → v ≡ byte_of a b (modulation_weight w x y) (punched w x y) 3
  unfolding byte_of punched
  alpha_is clear d g = let t : clear ≡ punched w x y = d ∙ rw (p, e) in g ∙ rw (weight_is, t) (alpha_at (punched w x y) _)

  pub texel_is : {r g bl al : ℕ} (clear : Bool) → clear ≡ both punch (eqb m 2) → r ≡ modulated k (unorm8 0 (lane a 0)) (unorm8 0 (lane b 0))
      → g ≡ modulated k (unorm8 1 (lane a 1)) (unorm8 1 (lane b 1)) → bl ≡ modulated k (unorm8 2 (lane a 2)) (unorm8 2 (lane b 2))
      → al ≡ pick clear 0 (modulated k (unorm8 3 (lane a 3)) (unorm8 3 (lane b 3)))
      → ◌≡◌ {A = Rgba} (record { r = r; g = g; b = bl; a = al }) (rgba_of (byte_of a b (modulation_weight w x y) (punched w x y)))
  texel_is clear d er eg eb ea = rw (colour_is 0 refl er, colour_is 1 refl eg, colour_is 2 refl eb, alpha_is clear d ea)
