-- Infill of a grid of one plane, as the code does it: two neighbours of a row stand in one number, and so do their factors, so that a product
-- of the two weighs both at once.
-- Assumes nothing.
use Rattle.std.specs.Prelude.{ℕ, ◌+◌, ◌*◌, ◌/◌, ◌%◌, ◌≤◌, List, ltb, get_or}
use Rattle.laws.specs.Choice.{pick}
use Rattle.laws.specs.Table.{tab}
use Rattle.encoding.specs.declared.LevelPair.{LevelPair}
use Rattle.weight_grid.specs.Bilinear.{w00, w01, w10, w11}
use Rattle.weight_grid.specs.inner.Points.{no_point}
use Rattle.weight_grid.specs.declared.PointPair.{PointPair}

-- each point has a weight and nothing of a second plane
abbrev pub OnePlane : List LevelPair → Type 0
OnePlane points = (k : ℕ) → (get_or points k no_point).0 ≤ 64

abbrev pub point_pair : LevelPair → LevelPair → PointPair
point_pair left right = record { 0 = right.0 + 2048 * left.0 }

-- a point and the next one of the list, none after the last
unfoldable pub pair_at : List LevelPair → ℕ → PointPair
pair_at points k = point_pair (get_or points k no_point) (pick (ltb k 63) (get_or points (k + 1) no_point) no_point)

unfoldable pub pairs_of : List LevelPair → List PointPair
pairs_of points = tab (pair_at points) 64

-- the factors of the upper two neighbours, and of the lower two, the left one's below: the middle of a product with a pair is then left by left
-- and right by right
unfoldable pub upper_pair : ℕ → ℕ → ℕ
upper_pair fs ft = w00 fs ft + 2048 * w01 fs ft

unfoldable pub lower_pair : ℕ → ℕ → ℕ
lower_pair fs ft = w10 fs ft + 2048 * w11 fs ft

-- the middle of the sum of both products, rounded, in sixteenths. That it is the blend of the four neighbours is a theorem: proofs/PairBlend.antt.
unfoldable pub pair_blend : ℕ → ℕ → ℕ → ℕ → ℕ
pair_blend upper lower above below = (above * upper + below * lower + 16384) / 32768 % 128
