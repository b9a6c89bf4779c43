-- 000, "Weight Infill": "For 3D, simplex interpolation is used". A grid point lies in a column, a row and a layer; places on the three axes
-- are `weight_grid: grid_place`'s. 02, h: "simplex infill of source document 000".
-- Assumes nothing.
use Rattle.std.specs.Prelude.{ℕ, ◌+◌, ◌-◌, ◌*◌, ◌/◌, ◌%◌, Bool, List, ltb}
use Rattle.laws.specs.Choice.{pick}
use Rattle.encoding.specs.declared.Level.{Level}
use Rattle.weight_grid.specs.Cell.{level_in}

-- v0 = js + jt*Wwidth + jr*Wwidth*Wheight; a neighbour outside the grid counts 0 and is not read, as 01 has it in flat blocks
unfoldable pub volume_cell_of : List Level → ℕ → ℕ → ℕ → ℕ → ℕ → ℕ → ℕ → ℕ → ℕ
volume_cell_of levels width height depth planes plane x y z =
    pick (ltb x width)
    (pick (ltb y height) (pick (ltb z depth) (level_in levels (((z * height + y) * width + x) * planes + plane)) 0) 0)
    0

-- i = (p0*w0 + p1*w1 + p2*w2 + p3*w3 + 8) >> 4
unfoldable pub simplex_sum : ℕ → ℕ → ℕ → ℕ → ℕ → ℕ → ℕ → ℕ → ℕ
simplex_sum w0 w1 w2 w3 p0 p1 p2 p3 = (p0 * w0 + p1 * w1 + p2 * w2 + p3 * w3 + 8) / 16

-- "ASTC simplex interpolation parameters", row by row, by the tests fs > ft, ft > fr, fs > fr: p i j k is the weight of the point i columns, j
-- rows and k layers on; p1 lies at s1, p2 at s1 + s2, p3 at the far corner
abbrev pub simplex_row : Bool → Bool → Bool → ℕ → ℕ → ℕ → (ℕ → ℕ → ℕ → ℕ) → ℕ
simplex_row a b c fs ft fr p =
    pick a
    (pick b (simplex_sum (16 - fs) (fs - ft) (ft - fr) fr (p 0 0 0) (p 1 0 0) (p 1 1 0) (p 1 1 1))
    (pick c (simplex_sum (16 - fs) (fs - fr) (fr - ft) ft (p 0 0 0) (p 1 0 0) (p 1 0 1) (p 1 1 1))
    (simplex_sum (16 - fr) (fr - fs) (fs - ft) ft (p 0 0 0) (p 0 0 1) (p 1 0 1) (p 1 1 1))))
    (pick c (simplex_sum (16 - ft) (ft - fs) (fs - fr) fr (p 0 0 0) (p 0 1 0) (p 1 1 0) (p 1 1 1))
    (pick b (simplex_sum (16 - ft) (ft - fr) (fr - fs) fs (p 0 0 0) (p 0 1 0) (p 0 1 1) (p 1 1 1))
    (simplex_sum (16 - fr) (fr - ft) (ft - fs) fs (p 0 0 0) (p 0 0 1) (p 0 1 1) (p 1 1 1))))

unfoldable pub simplex_of : ℕ → ℕ → ℕ → (ℕ → ℕ → ℕ → ℕ) → ℕ
simplex_of fs ft fr p = simplex_row (ltb ft fs) (ltb fr ft) (ltb fr fs) fs ft fr p

-- the effective weight at gs, gt, gr: js = gs >> 4 and fs = gs & 0xF, the other axes alike
unfoldable pub volume_infill : List Level → ℕ → ℕ → ℕ → ℕ → ℕ → ℕ → ℕ → ℕ → ℕ
volume_infill levels width height depth planes plane gs gt gr =
    simplex_of (gs % 16) (gt % 16) (gr % 16)
    (λ i j k. volume_cell_of levels width height depth planes plane (gs / 16 + i) (gt / 16 + j) (gr / 16 + k))
