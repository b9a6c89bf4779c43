-- 01, "What is covered": footprints 0 to 13, width x height. 02, h: "Add footprints 14 to 23: 3x3x3, 4x3x3, 4x4x3, 4x4x4, 5x4x4, 5x5x4, 5x5x5,
-- 6x5x5, 6x6x5, 6x6x6".
-- Assumes nothing.
use Rattle.std.specs.Prelude.{ℕ, ◌*◌, Bool, List, [], ◌∷◌, ltb, get_or}
use Rattle.footprint.specs.declared.Footprint.{Footprint}

abbrev pub by : ℕ → ℕ → ℕ → List ℕ
by w h d = w ∷ h ∷ d ∷ []

-- the footprints in the order of their numbers; a flat one has depth 1
unfoldable pub footprints : List (List ℕ)
footprints =
    by 4 4 1 ∷ by 5 4 1 ∷ by 5 5 1 ∷ by 6 5 1 ∷ by 6 6 1 ∷ by 8 5 1 ∷ by 8 6 1 ∷ by 8 8 1 ∷ by 10 5 1 ∷ by 10 6 1 ∷ by 10 8 1 ∷ by 10 10 1 ∷ by 12 10 1
    ∷ by 12 12 1 ∷ by 3 3 3 ∷ by 4 3 3 ∷ by 4 4 3 ∷ by 4 4 4 ∷ by 5 4 4 ∷ by 5 5 4 ∷ by 5 5 5 ∷ by 6 5 5 ∷ by 6 6 5 ∷ by 6 6 6 ∷ []

-- a footprint's sides; 0 above 23
unfoldable pub width_of : ℕ → ℕ
width_of fp = get_or (get_or footprints fp []) 0 0

unfoldable pub height_of : ℕ → ℕ
height_of fp = get_or (get_or footprints fp []) 1 0

unfoldable pub depth_of : ℕ → ℕ
depth_of fp = get_or (get_or footprints fp []) 2 0

unfoldable pub sides_of : ℕ → Footprint
sides_of fp = record { width = width_of fp; height = height_of fp; depth = depth_of fp }

-- how many texels a block covers
unfoldable pub texels_of : ℕ → ℕ
texels_of fp = width_of fp * height_of fp * depth_of fp

-- footprints 14 to 23 are volumes, those below are flat: 01's 2D
unfoldable pub is_volume : ℕ → Bool
is_volume fp = ltb 13 fp

-- 000, "Partition Pattern Generation": small_block is set where a block has less than 31 texels; of the volumes this is 3x3x3
unfoldable pub is_small : ℕ → Bool
is_small fp = ltb (texels_of fp) 31
