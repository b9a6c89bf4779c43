-- A texel on the ten numbers of a pair is the texel of the pair.
-- Assumes nothing.
use mathlib.Core.Path.{◌≡◌, refl}
use mathlib.Core.Bool.{Bool, true, false}
use mathlib.Core.List.{List}
use Prim.Native.Nat.{ℕ, ◌%◌}
use lib.Dec.{eqb}
use lib.ListN.{get_or}
use Rattle.laws.specs.Choice.{pick}
use Rattle.encoding.specs.declared.Level.{Level}
use Rattle.half_float.specs.Half.{half_of}
use Rattle.interpolation.specs.declared.Texel.{Texel}
use Rattle.interpolation.specs.Texel.{mix_of, weight_of, channel_of}
use Rattle.half_pair.specs.declared.HalfPair.{HalfPair}
use Rattle.half_pair.specs.Texel.{ends_of, hdr_at, half_channel, half_texel}
use Rattle.half_line.specs.inner.Line.{flag_of, half_line_of, half_line_channel, half_texel_on}

flag_is : (b : Bool) → eqb (flag_of b) 1 ≡ b
unfolding flag_of
flag_is true = refl
flag_is false = refl

module _ (p : HalfPair) (first second : Level) (component : ℕ) where
  at_is : (k : ℕ) → (weight_of component first second k).0 ≡ pick (eqb k component) second.0 first.0
  unfolding weight_of
  at_is k = go (eqb k component) where
    go : (t : Bool) → (pick t second first).0 ≡ pick t second.0 first.0
    go true = refl
    go false = refl

  pub half_line_lem : half_texel_on (half_line_of p) first.0 second.0 component ≡ half_texel p first second component
  unfolding half_texel_on half_line_channel half_line_of half_texel half_channel hdr_at channel_of
  half_line_lem = rw (flag_is p.colour, flag_is p.alpha, at_is 0, at_is 1, at_is 2, at_is 3)

-- the steps of the functions
abbrev texel : ℕ → ℕ → ℕ → ℕ → Texel
texel r g b a = record { r = r; g = g; b = b; a = a }

pub line_steps : (line : List ℕ) (first second component : ℕ) {w0 w1 w2 w3 r g b a : ℕ} → w0 ≡ pick (eqb 0 component) second first
    → r ≡ half_of (eqb (get_or line 8 0) 1) (mix_of (get_or line 0 0) (get_or line 4 0) w0 % 65536) → w1 ≡ pick (eqb 1 component) second first
    → g ≡ half_of (eqb (get_or line 8 0) 1) (mix_of (get_or line 1 0) (get_or line 5 0) w1 % 65536) → w2 ≡ pick (eqb 2 component) second first
    → b ≡ half_of (eqb (get_or line 8 0) 1) (mix_of (get_or line 2 0) (get_or line 6 0) w2 % 65536) → w3 ≡ pick (eqb 3 component) second first
    → a ≡ half_of (eqb (get_or line 9 0) 1) (mix_of (get_or line 3 0) (get_or line 7 0) w3 % 65536) → texel r g b a ≡ half_texel_on line first second component
unfolding half_texel_on half_line_channel
line_steps line first second component e0 er e1 eg e2 eb e3 ea = rw (er, eg, eb, ea, e0, e1, e2, e3)
