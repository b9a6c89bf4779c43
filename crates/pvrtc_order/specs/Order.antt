-- 002, "PVRTC1 4bpp word offset calculation": where the word in column X and row Y lies among the words of an image (02: word place).
-- Assumes nothing.
use Rattle.std.specs.Prelude.{ℕ, zero, suc, ◌+◌, ◌*◌, ◌/◌, ◌%◌}

-- "Reflected Morton order": "bits of X and Y are interleaved, with bits from Y in the lower of each interleaved pair", up to the number of
-- bits of the smaller side; "Any remaining bits from X or Y, for whichever of width and height is larger, are appended". X has Xb bits and
-- Y has Yb, none where a side is one word.
unfoldable pub word_place : ℕ → ℕ → ℕ → ℕ → ℕ
word_place zero Yb X Y = Y
word_place (suc Xb) zero X Y = X
word_place (suc Xb) (suc Yb) X Y = word_place Xb Yb (X / 2) (Y / 2) * 4 + X % 2 * 2 + Y % 2

-- back: the column and the row of the word at a place
unfoldable pub column_of : ℕ → ℕ → ℕ → ℕ
column_of zero Yb n = 0
column_of (suc Xb) zero n = n
column_of (suc Xb) (suc Yb) n = column_of Xb Yb (n / 4) * 2 + n / 2 % 2

unfoldable pub row_of : ℕ → ℕ → ℕ → ℕ
row_of zero Yb n = n
row_of (suc Xb) zero n = 0
row_of (suc Xb) (suc Yb) n = row_of Xb Yb (n / 4) * 2 + n % 2
