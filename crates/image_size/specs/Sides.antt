-- 01, "What is covered" and "Numbers told to the caller": the sides of an image, refusals 1 and 3, and its count of blocks.
-- Assumes nothing.
use Rattle.std.specs.Prelude.{ℕ, ◌+◌, ◌-◌, ◌*◌, ◌/◌, Bool, [], ◌∷◌, eqb, ltb}
use Rattle.laws.specs.Choice.{either}
use Rattle.laws.specs.Reasons.{when, first_of}
use Rattle.footprint.specs.Footprint.{width_of, height_of}

-- 02, e: "Raise each side to 16,384": the one limit of a side
unfoldable pub side_limit : ℕ
side_limit = 16384

-- 3: "a picture side is 0 or above" the limit
unfoldable pub bad_side : ℕ → Bool
bad_side n = either (eqb n 0) (ltb side_limit n)

-- 1: "footprint above 13", then 3; 0 for neither
unfoldable pub size_refusal : ℕ → ℕ → ℕ → ℕ
size_refusal fp w h = first_of (when (ltb 13 fp) 1 ∷ when (either (bad_side w) (bad_side h)) 3 ∷ [])

-- blocks of n texels that cover a side: ceil(side / n)
unfoldable pub blocks_across : ℕ → ℕ → ℕ
blocks_across side n = (side + n - 1) / n

-- how many blocks an image has
unfoldable pub blocks_of : ℕ → ℕ → ℕ → ℕ
blocks_of fp w h = blocks_across h (height_of fp) * blocks_across w (width_of fp)
