-- 01, "The program": lines of decimal numbers, as bytes.
-- Assumes nothing.
use Rattle.std.specs.Prelude.{ℕ, zero, suc, ◌+◌, ◌*◌, ◌/◌, ◌%◌, List, [], ◌∷◌, ◌++◌, ltb, length, drop}
use Rattle.laws.specs.Choice.{pick}

-- the digit of n at the power p of ten, in ASCII; none where it would lead with 0
unfoldable pub decimal_digit : ℕ → ℕ → List ℕ
decimal_digit p n = pick (ltb n p) [] ((48 + n / p % 10) ∷ [])

-- a number below 100,000 in decimal digits
unfoldable pub decimal : ℕ → List ℕ
decimal n = decimal_digit 10000 n ++ (decimal_digit 1000 n ++ (decimal_digit 100 n ++ (decimal_digit 10 n ++ ((48 + n % 10) ∷ []))))

-- numbers of at most five digits, each after a space, and the end of the line
unfoldable pub spaced : List ℕ → List ℕ
spaced [] = 10 ∷ []
spaced (n ∷ ns) = 32 ∷ (decimal n ++ spaced ns)

-- "x y r g b a", of texel k in rows of so many, from the numbers of all texels
unfoldable pub texel_line : ℕ → (ℕ → ℕ) → ℕ → List ℕ
texel_line width number k =
    decimal (k % width) ++ spaced (k / width ∷ number (4 * k) ∷ number (4 * k + 1) ∷ number (4 * k + 2) ∷ number (4 * k + 3) ∷ [])

-- the first n lines
unfoldable pub lines_of : (ℕ → List ℕ) → ℕ → List ℕ
lines_of line zero = []
lines_of line (suc n) = lines_of line n ++ line n

-- a text in front of what a buffer held
unfoldable pub text_over : List ℕ → List ℕ → List ℕ
text_over text old = text ++ drop (length text) old
