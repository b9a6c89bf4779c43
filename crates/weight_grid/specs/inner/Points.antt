-- Infill from the points of a grid, both planes at once, as the code does it.
-- Assumes nothing.
use Rattle.std.specs.Prelude.{ℕ, ◌+◌, ◌*◌, ◌/◌, ◌%◌, List, eqb, ltb, get_or}
use Rattle.laws.specs.Choice.{pick}
use Rattle.laws.specs.Table.{padded}
use Rattle.encoding.specs.declared.Level.{Level}
use Rattle.encoding.specs.declared.LevelPair.{LevelPair}
use Rattle.encoding.specs.inner.Levels.{level_pair}
use Rattle.weight_grid.specs.Cell.{level_in}
use Rattle.weight_grid.specs.Bilinear.{w00, w01, w10, w11, blend_of}

-- the blends of both planes in one sum, from the numbers of four pairs; 524296 is 8 in both planes, the rounding of each. That each plane
-- of it is that plane's blend is a theorem: proofs/Planes.antt.
unfoldable pub both_of : ℕ → ℕ → ℕ → ℕ → ℕ → ℕ → ℕ
both_of fs ft p00 p01 p10 p11 = (p00 * w00 fs ft + p01 * w01 fs ft + p10 * w10 fs ft + p11 * w11 fs ft + 524296) / 16

-- how far the next point lies in a list, from a place on an axis of so many points; 0 at the last point, past which nothing is read
unfoldable pub neighbour_step : ℕ → ℕ → ℕ → ℕ
neighbour_step place points size = pick (ltb (place / 16 + 1) points) size 0

-- what stands past the last point
abbrev pub no_point : LevelPair
no_point = level_pair 0 0

-- a plane at gs, gt, from the grid's points alone: at the last column or row a point stands for its neighbour, whose factor is 0. That it
-- is that plane's infill at the places of a block is a theorem: proofs/Reading.antt.
unfoldable pub read_of : (LevelPair → ℕ) → List LevelPair → ℕ → ℕ → ℕ → ℕ → ℕ
read_of plane points width height gs gt =
    let right = neighbour_step gs width 1 in
    let below = neighbour_step gt height width in
    let n = gt / 16 * width + gs / 16 in
    blend_of (gs % 16) (gt % 16)
    (plane (get_or points n no_point)) (plane (get_or points (n + right) no_point))
    (plane (get_or points (n + below) no_point)) (plane (get_or points (n + below + right) no_point))

-- the points of a grid, so many, from its weights: with two planes they alternate, with one the second is 0
unfoldable pub point_of : List Level → ℕ → ℕ → LevelPair
point_of levels planes k = level_pair (level_in levels (k * planes)) (pick (eqb planes 2) (level_in levels (k * planes + 1)) 0)

unfoldable pub points_of : List Level → ℕ → ℕ → List LevelPair
points_of levels planes count = padded 64 count (point_of levels planes) no_point
