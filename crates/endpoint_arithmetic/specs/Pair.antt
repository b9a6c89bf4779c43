-- 000, "LDR Endpoint Decoding": the two ends e0 and e1 in its forms direct, base+offset and base+scale.
-- Which numbers a mode puts in is said where the modes are.
-- Assumes nothing.
use Rattle.std.specs.Prelude.{ℕ, ◌+◌, ◌*◌, ◌/◌, List, [], ◌∷◌, leb, pos, ◌+ℤ◌, get_or}
use Rattle.std.specs.Int.Signed.{lt_z}
use Rattle.laws.specs.Choice.{pick}
use Rattle.endpoint_arithmetic.specs.declared.BaseOffset.{BaseOffset}
use Rattle.endpoint_arithmetic.specs.declared.EndpointPair.{EndpointPair}
use Rattle.endpoint_arithmetic.specs.Signed.{raised, plain_end, blue_end}

-- the pair of zeros
unfoldable pub zero_pair : EndpointPair
zero_pair = record { e0 = 0 ∷ 0 ∷ 0 ∷ 0 ∷ []; e1 = 0 ∷ 0 ∷ 0 ∷ 0 ∷ [] }

-- luminance: e0 = (l0, l0, l0, a0); e1 = (l1, l1, l1, a1)
unfoldable pub luminance_pair : ℕ → ℕ → ℕ → ℕ → EndpointPair
luminance_pair l0 l1 a0 a1 = record { e0 = l0 ∷ l0 ∷ l0 ∷ a0 ∷ []; e1 = l1 ∷ l1 ∷ l1 ∷ a1 ∷ [] }

-- base+scale: e0 = (r*s>>8, g*s>>8, b*s>>8, a0); e1 = (r, g, b, a1)
unfoldable pub scaled_pair : ℕ → ℕ → ℕ → ℕ → ℕ → ℕ → EndpointPair
scaled_pair r g b s a0 a1 = record { e0 = r * s / 256 ∷ g * s / 256 ∷ b * s / 256 ∷ a0 ∷ []; e1 = r ∷ g ∷ b ∷ a1 ∷ [] }

-- R + G + B of an end
unfoldable pub rgb_sum : List ℕ → ℕ
rgb_sum e = get_or e 0 0 + get_or e 1 0 + get_or e 2 0

-- an end after blue_contract; its channels are in 0..255, where the clamp changes nothing
unfoldable pub blue_of : List ℕ → List ℕ
blue_of e = blue_end (pos (get_or e 0 0)) (pos (get_or e 1 0)) (pos (get_or e 2 0)) (pos (get_or e 3 0))

-- direct: the ends as they are where s1 >= s0, else exchanged and blue-contracted
unfoldable pub direct_pair : List ℕ → List ℕ → EndpointPair
direct_pair x y = pick (leb (rgb_sum x) (rgb_sum y)) (record { e0 = x; e1 = y }) (record { e0 = blue_of y; e1 = blue_of x })

module _ (r g b a : BaseOffset) where
  -- base+offset: the bases, and the bases with their offsets added
  unfoldable pub raised_pair : EndpointPair
  raised_pair = record { e0 = plain_end (pos r.base) (pos g.base) (pos b.base) (pos a.base); e1 = plain_end (raised r) (raised g) (raised b) (raised a) }

  -- base+offset: the same, exchanged and blue-contracted
  unfoldable pub contracted_pair : EndpointPair
  contracted_pair = record { e0 = blue_end (raised r) (raised g) (raised b) (raised a); e1 = blue_end (pos r.base) (pos g.base) (pos b.base) (pos a.base) }

  -- base+offset: the first where the offsets of R, G and B sum to 0 or more, else the second
  unfoldable pub offset_pair : EndpointPair
  offset_pair = pick (lt_z (r.offset +ℤ g.offset +ℤ b.offset) (pos 0)) contracted_pair raised_pair
