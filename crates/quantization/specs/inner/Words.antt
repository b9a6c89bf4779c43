-- Unquantising by packed words, as the code does it for weights: what words give, and when they are right for a range.
-- Assumes nothing.
use Rattle.std.specs.Prelude.{◌≡◌, List, ℕ, ◌*◌, ◌/◌, ◌%◌, ◌^◌, ltb, get_or}
use Rattle.laws.specs.Choice.{pick}

-- byte v of four words, eight to a word, the first lowest; 0 past them
unfoldable pub by_words : List ℕ → ℕ → ℕ
by_words ws v = pick (ltb v 32) (get_or ws (v / 8) 0 / 2 ^ (8 * (v % 8)) % 256) 0

-- the words give each stored number its level
unfoldable pub RightWords : (ℕ → ℕ) → List ℕ → Type 0
RightWords level ws = (v : ℕ) → by_words ws v ≡ level v
