-- Worked examples; the same values are run, with those of other decoders, by pvrtc_runs.
-- Assumes nothing.
use mathlib.Core.Path.{◌≡◌, refl}
use Prim.Native.Nat.{ℕ, ◌+◌, ◌*◌, ◌^◌}
use mathlib.Core.List.{List, [], ◌∷◌}
use Rattle.bits.specs.Field.{field}
use Rattle.pvrtc_texel.specs.Texel.{texel_at}
use Rattle.pvrtc_texel.specs.Image.{bad_pvrtc_side, words_in, image_refusal}
use Rattle.pvrtc_texel.specs.Counting.{counting_words}

-- the first texel of an image of this one word
abbrev shown : ℕ → List ℕ
shown W = texel_at 1 1 (λ X Y. W) 0 0 0 ∷ texel_at 1 1 (λ X Y. W) 0 0 1 ∷ texel_at 1 1 (λ X Y. W) 0 0 2 ∷ texel_at 1 1 (λ X Y. W) 0 0 3 ∷ []

abbrev four : ℕ → ℕ → ℕ → ℕ → List ℕ
four r g b a = r ∷ g ∷ b ∷ a ∷ []

-- colour A opaque and black, colour B opaque and white, the flag M and the first texel's modulation
abbrev grey : ℕ → ℕ → ℕ
grey flag m = 0xffff * 2 ^ 48 + (0x8000 + flag) * 2 ^ 32 + m

pub greys :
    (shown (grey 0 0) ≡ four 0 0 0 255) × (shown (grey 0 1) ≡ four 95 95 95 255) × (shown (grey 0 2) ≡ four 159 159 159 255) × (shown (grey 0 3) ≡ four 255 255 255 255)
    × (shown (grey 1 0) ≡ four 0 0 0 255) × (shown (grey 1 1) ≡ four 127 127 127 255) × (shown (grey 1 2) ≡ four 127 127 127 0) × (shown (grey 1 3) ≡ four 255 255 255 255)
unfolding field texel_at
greys = (refl, refl, refl, refl, refl, refl, refl, refl)

-- a colour A and a colour B of each sort, alone
pub colours :
    (shown (0x8000 * 2 ^ 32 + 0x10 * 2 ^ 42 + 0x11 * 2 ^ 37 + 9 * 2 ^ 33) ≡ four 132 140 156 255)
    × (shown (7 * 2 ^ 44 + 15 * 2 ^ 40 + 8 * 2 ^ 36 + 5 * 2 ^ 33) ≡ four 255 140 181 238)
    × (shown (0x8000 * 2 ^ 48 + 0x10 * 2 ^ 58 + 0x11 * 2 ^ 53 + 9 * 2 ^ 48 + 3) ≡ four 132 140 74 255)
    × (shown (7 * 2 ^ 60 + 15 * 2 ^ 56 + 8 * 2 ^ 52 + 5 * 2 ^ 48 + 3) ≡ four 255 140 82 238)
unfolding field texel_at
colours = (refl, refl, refl, refl)

pub refusals :
    (image_refusal 4 4 8 64 ≡ 0) × (image_refusal 4096 4096 8388608 67108864 ≡ 0) × (image_refusal 5 4 7 1 ≡ 61) × (image_refusal 4 8192 7 1 ≡ 61)
    × (image_refusal 2 4 7 1 ≡ 61) × (image_refusal 4 4 7 1 ≡ 4) × (image_refusal 4 4 8 63 ≡ 5)
unfolding bad_pvrtc_side words_in image_refusal
refusals = (refl, refl, refl, refl, refl, refl, refl)

-- the first texel of four words takes all of them, by wrapping; one that stands on a sample takes one
pub words : (counting_words 1 1 0 0 ≡ (3 ∷ 1 ∷ 2 ∷ 0 ∷ [])) × (counting_words 1 1 2 2 ≡ (0 ∷ [])) × (counting_words 1 1 3 2 ≡ (0 ∷ 2 ∷ [])) × (counting_words 0 0 0 0 ≡ (0 ∷ 0 ∷ 0 ∷ 0 ∷ []))
unfolding counting_words
words = (refl, refl, refl, refl)
