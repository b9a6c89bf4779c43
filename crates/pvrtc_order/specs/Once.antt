-- 02, k: what is proved of the word order. Theorems: proofs/Once.antt, `once`, of all sides, and `place_54`.
-- Assumes nothing.
use Rattle.std.specs.Prelude.{◌≡◌, ℕ, ◌*◌, ◌^◌, ◌<◌}
use Rattle.pvrtc_order.specs.Order.{word_place, column_of, row_of}

-- "Prove that the word order reaches every word exactly once": in an image of 2 ^ a columns and 2 ^ b rows of words each word has a place among as
-- many, and each place is that of one word and of no other
pub record Once (a b : ℕ) : Type 0 where
  pub inside : (X Y : ℕ) → X < 2 ^ a → Y < 2 ^ b → word_place a b X Y < 2 ^ a * 2 ^ b
  pub column : (n : ℕ) → n < 2 ^ a * 2 ^ b → column_of a b n < 2 ^ a
  pub row : (n : ℕ) → n < 2 ^ a * 2 ^ b → row_of a b n < 2 ^ b
  pub reached : (n : ℕ) → n < 2 ^ a * 2 ^ b → word_place a b (column_of a b n) (row_of a b n) ≡ n
  pub by_one : (n X Y : ℕ) → X < 2 ^ a → Y < 2 ^ b → word_place a b X Y ≡ n → (X ≡ column_of a b n) × (Y ≡ row_of a b n)

-- "Word place for X = 13, Y = 2 in 64 by 16 texels is 54": sixteen words wide and four high, so X has four bits and Y two
abbrev pub Place54 : Type 0
Place54 = word_place 4 2 13 2 ≡ 54
