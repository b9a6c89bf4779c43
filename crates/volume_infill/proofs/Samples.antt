-- Weights of texels as a second reckoning has them (outside/tables/make_volumes.py); each row of 000's table is met.
-- Assumes nothing.
use mathlib.Core.Path.{◌≡◌, refl}
use mathlib.Core.List.{List, [], ◌∷◌}
use Prim.Native.Nat.{ℕ, ◌+◌, ◌*◌, ◌%◌}
use Rattle.laws.specs.Table.{tab}
use Rattle.encoding.specs.declared.Level.{Level}
use Rattle.weight_grid.specs.Place.{scale_of, grid_place}
use Rattle.weight_grid.specs.Cell.{level, level_in}
use Rattle.volume_infill.specs.Simplex.{volume_cell_of, simplex_sum, simplex_of, volume_infill}

-- so many weights
abbrev weights : ℕ → List Level
weights n = tab (λ k. level ((k * 37 + 11) % 65)) n

-- in a block of these sides, with a grid of these sides
module _ (bw bh bd w h d planes plane : ℕ) where
  abbrev texel : ℕ → ℕ → ℕ → ℕ
  texel x y z =
      volume_infill (weights (w * h * d * planes)) w h d planes plane (grid_place (scale_of bw) x w) (grid_place (scale_of bh) y h) (grid_place (scale_of bd) z d)

  abbrev texels : List ℕ
  texels =
      texel 0 0 0 ∷ texel 1 2 0 ∷ texel 2 1 1 ∷ texel 1 1 2 ∷ texel 0 2 1 ∷ texel 2 0 1 ∷ texel 0 1 2 ∷ texel 1 0 2 ∷ texel 2 2 2 ∷ texel 3 1 2 ∷ texel 1 3 2 ∷ texel 2 3 1
      ∷ texel 3 2 3 ∷ []

pub samples :
    (texels 6 6 6 4 3 5 1 0 ≡ 11 ∷ 8 ∷ 41 ∷ 23 ∷ 17 ∷ 34 ∷ 16 ∷ 16 ∷ 40 ∷ 30 ∷ 38 ∷ 43 ∷ 14 ∷ [])
    × (texels 5 5 4 2 3 4 2 0 ≡ 11 ∷ 31 ∷ 14 ∷ 33 ∷ 18 ∷ 5 ∷ 31 ∷ 56 ∷ 12 ∷ 37 ∷ 18 ∷ 32 ∷ 19 ∷ [])
    × (texels 5 5 4 2 3 4 2 1 ≡ 48 ∷ 3 ∷ 51 ∷ 37 ∷ 55 ∷ 42 ∷ 35 ∷ 28 ∷ 49 ∷ 42 ∷ 39 ∷ 36 ∷ 40 ∷ [])
    × (texels 4 4 4 4 4 4 1 0 ≡ 11 ∷ 19 ∷ 45 ∷ 15 ∷ 54 ∷ 27 ∷ 43 ∷ 62 ∷ 5 ∷ 24 ∷ 51 ∷ 16 ∷ 49 ∷ [])
    × (texels 6 5 5 6 2 2 1 0 ≡ 11 ∷ 29 ∷ 24 ∷ 49 ∷ 22 ∷ 17 ∷ 12 ∷ 43 ∷ 28 ∷ 42 ∷ 47 ∷ 38 ∷ 30 ∷ [])
unfolding volume_infill simplex_of simplex_sum volume_cell_of level_in grid_place scale_of tab
samples = (refl, refl, refl, refl, refl)
