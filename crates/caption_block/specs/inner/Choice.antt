-- The choice of a weight step by step.
-- Assumes nothing.
use Rattle.std.specs.Prelude.{ℕ, List, [], ◌∷◌, ltb}
use Rattle.laws.specs.Choice.{pick}
use Rattle.grey_caption.specs.Caption.{grey_of}
use Rattle.caption_block.specs.declared.Choice.{Choice}

-- the greys of the four weights
unfoldable pub greys_of : ℕ → ℕ → List ℕ
greys_of e0 e1 = grey_of e0 e1 0 ∷ grey_of e0 e1 1 ∷ grey_of e0 e1 2 ∷ grey_of e0 e1 3 ∷ []

-- one weight more
unfoldable pub better_of : Choice → ℕ → ℕ → Choice
better_of c w square = pick (ltb square c.square) (record { weight = w; square = square }) c
