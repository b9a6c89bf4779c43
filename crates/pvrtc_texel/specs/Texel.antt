-- 002, "PVRTC1 4bpp color reconstruction samples" to "color modulation": a texel from the words of an image.
-- Assumes nothing.
use Rattle.std.specs.Prelude.{ℕ, ◌+◌, ◌-◌, ◌*◌, ◌/◌, ◌%◌, eqb}
use Rattle.laws.specs.Choice.{pick, both}
use Rattle.pvrtc_texel.specs.Word.{colour_a, colour_b, modulation_weight, punched}

-- along one axis of n words, at texel x: X_Low, which is (x - 2) / 4 rounded down, and X_Low + 1; "The texture data words are wrapped toroidally".
-- X_Low is one less than (x + 2) / 4, and - 1 for the first two texels: n - 1 is added for - 1.
unfoldable pub low_word : ℕ → ℕ → ℕ
low_word n x = ((x + 2) / 4 + (n - 1)) % n

unfoldable pub high_word : ℕ → ℕ → ℕ
high_word n x = (x + 2) / 4 % n

-- x_r, which is (x - 2) - 4 X_Low: "relative coordinates"
unfoldable pub relative : ℕ → ℕ
relative x = (x + 2) % 4

-- "PVRTC1 4bpp color channel interpolation", of the samples of low and high column in the low row, and of both in the high row
unfoldable pub interpolated : ℕ → ℕ → ℕ → ℕ → ℕ → ℕ → ℕ
interpolated xr yr c00 c10 c01 c11 = c00 * ((4 - xr) * (4 - yr)) + c10 * (xr * (4 - yr)) + c01 * ((4 - xr) * yr) + c11 * (xr * yr)

-- "a 5.4-bit fixed-point value" of red, green and blue, "a 4.4-bit fixed-point value" of alpha (channel 3), as "an 8-bit normalized value"
unfoldable pub unorm8 : ℕ → ℕ → ℕ
unorm8 c v = pick (eqb c 3) (v + v / 16) (v / 2 + v / 64)

-- "PVRTC image modulation": the final color
unfoldable pub modulated : ℕ → ℕ → ℕ → ℕ
modulated weight a b = (a * (8 - weight) + b * weight) / 8

-- an image of n by m words: the word in each column and row
module _ (n m : ℕ) (word : ℕ → ℕ → ℕ) where
  -- channel c of Image A or Image B at texel (x, y), by the colour of a word
  unfoldable pub upscaled : (ℕ → ℕ → ℕ) → ℕ → ℕ → ℕ → ℕ
  unfolding low_word high_word relative interpolated unorm8
  upscaled colour x y c =
      unorm8 c
      (interpolated (relative x) (relative y)
      (colour (word (low_word n x) (low_word m y)) c)
      (colour (word (high_word n x) (low_word m y)) c)
      (colour (word (low_word n x) (high_word m y)) c)
      (colour (word (high_word n x) (high_word m y)) c))

  -- channel c of the texel: "The modulation information is retrieved from word" X_Mod, Y_Mod, which are x / 4 and y / 4 rounded down
  unfoldable pub texel_at : ℕ → ℕ → ℕ → ℕ
  unfolding upscaled modulated modulation_weight punched colour_a colour_b
  texel_at x y c =
      let W = word (x / 4) (y / 4) in
      pick (both (punched W (x % 4) (y % 4)) (eqb c 3)) 0
      (modulated (modulation_weight W (x % 4) (y % 4)) (upscaled colour_a x y c) (upscaled colour_b x y c))
