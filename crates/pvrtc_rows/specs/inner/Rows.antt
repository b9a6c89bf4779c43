-- A row of words as the code keeps it: three numbers for each word, the last word before the first one and the first after the last.
-- Assumes nothing.
use Rattle.std.specs.Prelude.{◌≡◌, ℕ, ◌+◌, ◌-◌, ◌*◌, ◌%◌, ◌^◌, ◌≤◌, ◌<◌, List, length, get_or, set}
use Rattle.pvrtc_texel.specs.Word.{colour_a, colour_b}
use Rattle.pvrtc_texel.specs.Image.{word_at}
use Rattle.pvrtc_word.specs.inner.Lanes.{lanes}

-- the bytes of 2 ^ xb columns and 2 ^ yb rows of words, neither side longer than 4,096 texels
pub record WordsSized (xb yb : ℕ) (s : List ℕ) : Type 0 where
  pub wide : xb ≤ 10
  pub high : yb ≤ 10
  pub bytes : length s ≡ 8 * (2 ^ xb * 2 ^ yb)

-- word i along a side of n, counted from the one before the first: 002's X_Low is that of (x + 2) / 4
unfoldable pub around : ℕ → ℕ → ℕ
around n i = (i + (n - 1)) % n

-- the three numbers of word i
pub record Three (l : List ℕ) (i u v w : ℕ) : Type 0 where
  pub first : get_or l (3 * i) 0 ≡ u
  pub second : get_or l (3 * i + 1) 0 ≡ v
  pub third : get_or l (3 * i + 2) 0 ≡ w

-- those of words a, .., k - 1
unfoldable pub ThreesFrom : (u v w : ℕ → ℕ) → List ℕ → ℕ → ℕ → Type 0
ThreesFrom u v w l a k = (i : ℕ) → a ≤ i → i < k → Three l i (u i) (v i) (w i)

-- those of the first k words
unfoldable pub Threes : (u v w : ℕ → ℕ) → List ℕ → ℕ → Type 0
Threes u v w l k = (i : ℕ) → i < k → Three l i (u i) (v i) (w i)

-- the list with other numbers of word i
abbrev pub put_three : List ℕ → ℕ → ℕ → ℕ → ℕ → List ℕ
put_three l i u v w = set (set (set l (3 * i) u) (3 * i + 1) v) (3 * i + 2) w

-- a row of n words, by column: colour A, colour B and the word itself
pub record WordRow (n : ℕ) (word : ℕ → ℕ) (l : List ℕ) : Type 0 where
  pub size : length l ≡ 3078
  pub words : Threes (λ i. lanes (colour_a (word (around n i)))) (λ i. lanes (colour_b (word (around n i)))) (λ i. word (around n i)) l (n + 2)

-- the first and the last row of the words
pub record EndRows (xb yb : ℕ) (s : List ℕ) (first last : List ℕ) : Type 0 where
  pub at_first : WordRow (2 ^ xb) (λ X. word_at xb yb s X 0) first
  pub at_last : WordRow (2 ^ xb) (λ X. word_at xb yb s X (2 ^ yb - 1)) last

-- rows k and k + 1 of the words, counted like columns
pub record Window (xb yb : ℕ) (s : List ℕ) (k : ℕ) (top bottom : List ℕ) : Type 0 where
  pub above : WordRow (2 ^ xb) (λ X. word_at xb yb s X (around (2 ^ yb) k)) top
  pub below : WordRow (2 ^ xb) (λ X. word_at xb yb s X (around (2 ^ yb) (k + 1))) bottom
