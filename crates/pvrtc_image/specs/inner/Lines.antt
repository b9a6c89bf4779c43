-- A line: two rows of words interpolated downwards for one row of texels, and the texels of it.
-- Assumes nothing.
use Rattle.std.specs.Prelude.{◌≡◌, ℕ, ◌+◌, ◌-◌, ◌*◌, ◌/◌, ◌%◌, ◌^◌, ◌≤◌, ◌<◌, List, ltb, length, get_or}
use Rattle.laws.specs.Choice.{pick}
use Rattle.laws.specs.inner.Filled.{Filled}
use Rattle.pvrtc_texel.specs.Word.{modulation_weight, punched}
use Rattle.pvrtc_texel.specs.Texel.{relative, unorm8, modulated}
use Rattle.pvrtc_texel.specs.Image.{image_texel}
use Rattle.pvrtc_word.specs.inner.Lanes.{lane, byte_of}
use Rattle.pvrtc_rows.specs.inner.Rows.{Threes}

-- p of four parts of the way from a to b, times four
unfoldable pub between : ℕ → ℕ → ℕ → ℕ
between p a b = a * (4 - p) + b * p

-- a number of two rows, interpolated; the one of the row whose modulation a row of texels takes
abbrev pub rows_between : ℕ → List ℕ → List ℕ → ℕ → ℕ
rows_between p top bottom j = between p (get_or top j 0) (get_or bottom j 0)

abbrev pub own_of : ℕ → List ℕ → List ℕ → ℕ → ℕ
own_of p top bottom j = pick (ltb p 2) (get_or top j 0) (get_or bottom j 0)

-- the colours of n words leave room for two interpolations
pub record Low (n : ℕ) (l : List ℕ) : Type 0 where
  pub size : length l ≡ 3078
  pub first_low : (i : ℕ) → i < n → get_or l (3 * i) 0 < 2 ^ 52
  pub second_low : (i : ℕ) → i < n → get_or l (3 * i + 1) 0 < 2 ^ 52

-- the first n words of a line, p rows of texels below the top row's samples: both colours, and the word whose modulation the row takes
pub record Line (p : ℕ) (top bottom line : List ℕ) (n : ℕ) : Type 0 where
  pub size : length line ≡ 3078
  pub words : Threes (λ i. rows_between p top bottom (3 * i)) (λ i. rows_between p top bottom (3 * i + 1)) (λ i. own_of p top bottom (3 * i + 2)) line n

-- both colours at texel x of a line, and the word that has its modulation
unfoldable pub sample_a : List ℕ → ℕ → ℕ
unfolding between relative
sample_a line x = between (relative x) (get_or line (3 * ((x + 2) / 4)) 0) (get_or line (3 * ((x + 2) / 4) + 3) 0)

unfoldable pub sample_b : List ℕ → ℕ → ℕ
unfolding between relative
sample_b line x = between (relative x) (get_or line (3 * ((x + 2) / 4) + 1) 0) (get_or line (3 * ((x + 2) / 4) + 4) 0)

unfoldable pub own_word : List ℕ → ℕ → ℕ
own_word line x = get_or line (3 * (x / 4) + 5) 0

-- channel c of texel x of row y
unfoldable pub shown_on_line : List ℕ → ℕ → ℕ → ℕ → ℕ
unfolding sample_a sample_b own_word
shown_on_line line y x c =
    byte_of (sample_a line x) (sample_b line x) (modulation_weight (own_word line x) (x % 4) (y % 4)) (punched (own_word line x) (x % 4) (y % 4)) c

-- nothing in the way from the line to this texel's bytes is too large
pub record Paintable (line : List ℕ) (y x : ℕ) : Type 0 where
  pub size : length line ≡ 3078
  pub left_a : get_or line (3 * ((x + 2) / 4)) 0 < 2 ^ 58
  pub right_a : get_or line (3 * ((x + 2) / 4) + 3) 0 < 2 ^ 58
  pub left_b : get_or line (3 * ((x + 2) / 4) + 1) 0 < 2 ^ 58
  pub right_b : get_or line (3 * ((x + 2) / 4) + 4) 0 < 2 ^ 58
  pub bytes : (c : ℕ) → c < 4 → modulated (modulation_weight (own_word line x) (x % 4) (y % 4)) (unorm8 c (lane (sample_a line x) c)) (unorm8 c (lane (sample_b line x) c)) ≤ 255

-- a buffer after n numbers were put in from place `at` on: what it held of any function before that place, it holds up to their end
pub record Painted (f : ℕ → ℕ) (n at : ℕ) (old new : List ℕ) : Type 0 where
  pub size : length new ≡ length old
  pub fills : (F : ℕ → ℕ) → Filled F 0 old at → ((k : ℕ) → k < n → f k ≡ F (at + k)) → Filled F 0 new (at + n)

-- the number at place k of the bytes of an image with 2 ^ xb columns and 2 ^ yb rows of words
unfoldable pub number_at : ℕ → ℕ → List ℕ → ℕ → ℕ
unfolding image_texel
number_at xb yb s k = image_texel xb yb s (k / 4 % (4 * 2 ^ xb)) (k / 4 / (4 * 2 ^ xb)) (k % 4)
