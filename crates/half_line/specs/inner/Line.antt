-- A pair of kind 2 as ten numbers, so that painting lends it as it lends the lines of kinds 0 and 1. That a texel on it is the texel of the
-- pair is a theorem: proofs/Line.antt.
-- Assumes nothing.
use Rattle.std.specs.Prelude.{ℕ, ◌+◌, ◌%◌, Bool, List, [], ◌∷◌, eqb, get_or}
use Rattle.laws.specs.Choice.{pick}
use Rattle.half_float.specs.Half.{half_of}
use Rattle.interpolation.specs.declared.Kind.{Kind}
use Rattle.interpolation.specs.declared.Texel.{Texel}
use Rattle.interpolation.specs.Expansion.{takes_hdr}
use Rattle.interpolation.specs.Texel.{mix_of}
use Rattle.interpolation.specs.inner.Line.{line_texel}
use Rattle.half_pair.specs.declared.HalfPair.{HalfPair}

unfoldable pub flag_of : Bool → ℕ
flag_of b = pick b 1 0

-- the two ends, and whether the colours and the alpha are HDR
unfoldable pub half_line_of : HalfPair → List ℕ
half_line_of p =
    get_or p.c0 0 0 ∷ get_or p.c0 1 0 ∷ get_or p.c0 2 0 ∷ get_or p.c0 3 0
    ∷ get_or p.c1 0 0 ∷ get_or p.c1 1 0 ∷ get_or p.c1 2 0 ∷ get_or p.c1 3 0
    ∷ flag_of p.colour ∷ flag_of p.alpha ∷ []

module _ (line : List ℕ) (first second component : ℕ) where
  -- channel k, given the place of its mark
  unfoldable pub half_line_channel : ℕ → ℕ → ℕ
  half_line_channel mark k = half_of (eqb (get_or line mark 0) 1) (mix_of (get_or line k 0) (get_or line (4 + k) 0) (pick (eqb k component) second first) % 65536)

  unfoldable pub half_texel_on : Texel
  half_texel_on = record { r = half_line_channel 8 0; g = half_line_channel 8 1; b = half_line_channel 8 2; a = half_line_channel 9 3 }

-- the texel of a kind on the numbers of its pair
unfoldable pub texel_on : Kind → List ℕ → ℕ → ℕ → ℕ → Texel
texel_on kind line first second component = pick (takes_hdr kind) (half_texel_on line first second component) (line_texel kind line first second component)
