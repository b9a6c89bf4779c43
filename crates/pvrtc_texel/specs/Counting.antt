-- 02, k: "list which words count, at most four for a texel, and prove that no other does". Theorem:
-- proofs/Exact.antt, `exact`.
-- Assumes nothing.
use Rattle.std.specs.Prelude.{◌≡◌, ℕ, ◌*◌, ◌^◌, ◌≤◌, ◌<◌, eqb, length, get_or}
use mathlib.Core.List.{List, [], ◌∷◌, ◌++◌, Memᴰ}
use Rattle.laws.specs.Choice.{pick}
use Rattle.pvrtc_order.specs.Order.{word_place}
use Rattle.pvrtc_texel.specs.Texel.{low_word, high_word, relative}
use Rattle.pvrtc_texel.specs.Image.{word_at_place, image_texel}

-- the columns or rows that count along one axis of n words: the low one, and the high one unless the texel stands on the low sample
unfoldable pub counting_along : ℕ → ℕ → List ℕ
unfolding low_word high_word relative
counting_along n x = pick (eqb (relative x) 0) (low_word n x ∷ []) (low_word n x ∷ high_word n x ∷ [])

-- the places of the words in row Y and these columns
abbrev pub places_in_row : ℕ → ℕ → ℕ → List ℕ → List ℕ
places_in_row a b Y [] = []
places_in_row a b Y (X ∷ Xs) = word_place a b X Y ∷ places_in_row a b Y Xs

abbrev pub places_in : ℕ → ℕ → List ℕ → List ℕ → List ℕ
places_in a b Xs [] = []
places_in a b Xs (Y ∷ Ys) = places_in_row a b Y Xs ++ places_in a b Xs Ys

-- the places of the words that count for texel (x, y): one, two or four. The word that holds its modulation is among them. Along a side of
-- one word, low and high are the same and a place may stand twice.
unfoldable pub counting_words : ℕ → ℕ → ℕ → ℕ → List ℕ
unfolding counting_along word_place
counting_words a b x y = places_in a b (counting_along (2 ^ a) x) (counting_along (2 ^ b) y)

-- the word at place p counts for texel (x, y): two images, whole and of bytes, differ in it alone and show another texel
pub record Counts (a b x y p : ℕ) : Type 0 where
  pub one : List ℕ
  pub other : List ℕ
  pub one_whole : length one ≡ 8 * (2 ^ a * 2 ^ b)
  pub other_whole : length other ≡ 8 * (2 ^ a * 2 ^ b)
  pub one_bytes : (k : ℕ) → get_or one k 0 < 256
  pub other_bytes : (k : ℕ) → get_or other k 0 < 256
  pub elsewhere : (q : ℕ) → q < 2 ^ a * 2 ^ b → (q ≡ p → ⊥) → word_at_place one q ≡ word_at_place other q
  pub differ : image_texel a b one x y 0 ≡ image_texel a b other x y 0 → ⊥

-- the list is exact for texel (x, y)
pub record Exact (a b x y : ℕ) : Type 0 where
  pub at_most_four : length (counting_words a b x y) ≤ 4
  -- each listed place is that of a word of the image,
  pub inside : (p : ℕ) → Memᴰ p (counting_words a b x y) → p < 2 ^ a * 2 ^ b
  -- images with the same word at each listed place show the same there in every channel, whatever else they hold,
  pub no_other : (s t : List ℕ) → ((p : ℕ) → Memᴰ p (counting_words a b x y) → word_at_place s p ≡ word_at_place t p)
      → (c : ℕ) → image_texel a b s x y c ≡ image_texel a b t x y c
  -- and each listed word counts
  pub each : (p : ℕ) → Memᴰ p (counting_words a b x y) → Counts a b x y p

-- of images of all sides, at every texel
abbrev pub ExactEverywhere : Type 0
ExactEverywhere = (a b x y : ℕ) → x < 4 * 2 ^ a → y < 4 * 2 ^ b → Exact a b x y
