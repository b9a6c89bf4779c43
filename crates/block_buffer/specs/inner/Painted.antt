-- What a lent buffer holds while and once the texels of a block are put into it.
-- Assumes nothing.
use Rattle.std.specs.Prelude.{ℕ, ◌*◌, ◌/◌, ◌%◌, List, [], ◌∷◌, get_or}
use Rattle.laws.specs.Table.{replaced}
use Rattle.interpolation.specs.declared.Texel.{Texel}

-- the four numbers of a texel; 01: "Channels are R, G, B, A"
abbrev pub four_of : Texel → List ℕ
four_of t = t.r ∷ t.g ∷ t.b ∷ t.a ∷ []

-- number k of texels given by their column and row: number k % 4 of texel k / 4, rows first
unfoldable pub texel_number : ℕ → (ℕ → ℕ → Texel) → ℕ → ℕ
texel_number width texel k = get_or (four_of (texel (k / 4 % width) (k / 4 / width))) (k % 4) 0

-- the buffer `old` with the numbers of the first n texels in front
unfoldable pub painted : ℕ → (ℕ → ℕ → Texel) → ℕ → List ℕ → List ℕ
painted width texel n old = replaced 0 (texel_number width texel) (4 * n) old
