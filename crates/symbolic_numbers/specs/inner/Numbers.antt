-- What the code asks of a symbolic block's list: a number by its place, and numbers above 255.
-- Assumes nothing.
use Rattle.std.specs.Prelude.{ℕ, ◌+◌, ◌-◌, min, Bool, List, ltb, leb, get_or}
use Rattle.laws.specs.Choice.{pick, all}
use Rattle.laws.specs.Table.{tab}
use Rattle.encoding.specs.declared.Stored.{Stored}
use Rattle.symbolic_block.specs.Fields.{stored_in}

-- its number i, by position
abbrev pub flat_at : List ℕ → List Stored → List Stored → List ℕ → ℕ → ℕ
flat_at settings endpoints weights added i =
    pick (ltb i 21) (get_or settings i 0) (pick (ltb i 39) (stored_in endpoints (i - 21)) (pick (ltb i 103) (stored_in weights (i - 39)) (get_or added (i - 103) 0)))

-- the list with 255 for each number above it
unfoldable pub clipped_numbers : List ℕ → List ℕ
unfolding tab
clipped_numbers numbers = tab (λ i. min (get_or numbers i 0) 255) 107

-- no endpoint number is above 255
unfoldable pub endpoints_fit : List ℕ → Bool
endpoints_fit numbers = all (λ i. leb (get_or numbers (21 + i) 0) 255) 18
