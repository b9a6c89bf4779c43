-- What is read by a block's columns is what is read at their places.
-- Assumes nothing.
use mathlib.Core.Path.{◌≡◌}
use mathlib.Core.List.{List}
use Prim.Native.Nat.{ℕ, ◌+◌, ◌*◌, ◌/◌, ◌%◌}
use native.Mathlib.Omega.{arith}
use lib.ListN.{get_or}
use Rattle.encoding.specs.declared.LevelPair.{LevelPair}
use Rattle.weight_grid.specs.Place.{grid_place}
use Rattle.weight_grid.specs.Bilinear.{blend_of}
use Rattle.weight_grid.specs.inner.Points.{neighbour_step, no_point, read_of}
use Rattle.weight_grid.specs.inner.Columns.{grid_column}

-- the rows above and below the place begin at `upper` and `lower`
pub read_column : (plane : LevelPair → ℕ) (points : List LevelPair) (scale width height x gt : ℕ) {upper lower : ℕ} → upper ≡ gt / 16 * width → lower ≡ upper + neighbour_step gt height width
    → blend_of ((grid_column scale width x).part % 16) (gt % 16)
    (plane (get_or points (upper + (grid_column scale width x).at) no_point)) (plane (get_or points (upper + (grid_column scale width x).next) no_point))
    (plane (get_or points (lower + (grid_column scale width x).at) no_point)) (plane (get_or points (lower + (grid_column scale width x).next) no_point))
    ≡ read_of plane points width height (grid_place scale x width) gt
unfolding read_of grid_column
read_column plane points scale width height x gt eu el =
    let gs = grid_place scale x width in
    let right = neighbour_step gs width 1 in
    let below = neighbour_step gt height width in
    let from = gt / 16 * width in
    let a : gs % 16 % 16 ≡ gs % 16 = omega arith in
    let b : from + (gs / 16 + right) ≡ from + gs / 16 + right = omega arith in
    let c : from + below + gs / 16 ≡ from + gs / 16 + below = omega arith in
    let d : from + below + (gs / 16 + right) ≡ from + gs / 16 + below + right = omega arith in
    rw (el, eu, a, b, c, d)
