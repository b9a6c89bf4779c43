-- Simplex infill from the points of a grid, both planes at once, as the code does it.
-- Assumes nothing.
use Rattle.std.specs.Prelude.{ℕ, ◌+◌, ◌-◌, ◌*◌, ◌/◌, ◌%◌, ◌≤◌, Bool, List, ltb, get_or}
use Rattle.laws.specs.Choice.{pick}
use Rattle.encoding.specs.declared.LevelPair.{LevelPair}
use Rattle.encoding.specs.inner.Levels.{BytePair}
use Rattle.weight_grid.specs.inner.Points.{neighbour_step, no_point}
use Rattle.volume_infill.specs.declared.Walk.{Walk}
use Rattle.volume_infill.specs.declared.Route.{Route}
use Rattle.volume_infill.specs.Simplex.{simplex_sum}

-- the way from a point to the far corner, by the same tests: the first two steps, and the factors of the four points on it
abbrev pub walk_row : Bool → Bool → Bool → ℕ → ℕ → ℕ → ℕ → ℕ → ℕ → Walk
walk_row a b c fs ft fr right below behind =
    pick a
    (pick b (record { first = right; second = below; w0 = 16 - fs; w1 = fs - ft; w2 = ft - fr; w3 = fr })
    (pick c (record { first = right; second = behind; w0 = 16 - fs; w1 = fs - fr; w2 = fr - ft; w3 = ft })
    (record { first = behind; second = right; w0 = 16 - fr; w1 = fr - fs; w2 = fs - ft; w3 = ft })))
    (pick c (record { first = below; second = right; w0 = 16 - ft; w1 = ft - fs; w2 = fs - fr; w3 = fr })
    (pick b (record { first = below; second = behind; w0 = 16 - ft; w1 = ft - fr; w2 = fr - fs; w3 = fs })
    (record { first = behind; second = below; w0 = 16 - fr; w1 = fr - ft; w2 = ft - fs; w3 = fs })))

unfoldable pub walk_of : ℕ → ℕ → ℕ → ℕ → ℕ → ℕ → Walk
walk_of fs ft fr right below behind = walk_row (ltb ft fs) (ltb fr ft) (ltb fr fs) fs ft fr right below behind

-- the blends of both planes in one sum, from the numbers of four pairs; 524296 is 8 in both planes. That each plane of it is that plane's
-- blend is a theorem: proofs/Sixteenths.antt.
unfoldable pub both_four : ℕ → ℕ → ℕ → ℕ → ℕ → ℕ → ℕ → ℕ → ℕ
both_four w0 w1 w2 w3 p0 p1 p2 p3 = (p0 * w0 + p1 * w1 + p2 * w2 + p3 * w3 + 524296) / 16

-- the points that are read at gs, gt, gr, all of the grid: at the last column, row or layer a point stands for its neighbour, whose factor is 0
unfoldable pub route_of : ℕ → ℕ → ℕ → ℕ → ℕ → ℕ → Route
route_of width height depth gs gt gr =
    let right = neighbour_step gs width 1 in
    let below = neighbour_step gt height width in
    let behind = neighbour_step gr depth (width * height) in
    let n = (gr / 16 * height + gt / 16) * width + gs / 16 in
    let k = walk_of (gs % 16) (gt % 16) (gr % 16) right below behind in
    record { n0 = n; n1 = n + k.first; n2 = n + k.first + k.second; n3 = n + right + below + behind; w0 = k.w0; w1 = k.w1; w2 = k.w2; w3 = k.w3 }

-- a plane's blend along a route
abbrev pub along : (LevelPair → ℕ) → List LevelPair → Route → ℕ
along plane points k =
    simplex_sum k.w0 k.w1 k.w2 k.w3
    (plane (get_or points k.n0 no_point)) (plane (get_or points k.n1 no_point)) (plane (get_or points k.n2 no_point)) (plane (get_or points k.n3 no_point))

-- a plane at gs, gt, gr, from the grid's points alone. That it is that plane's infill is a theorem: proofs/Reading.antt.
unfoldable pub volume_read : (LevelPair → ℕ) → List LevelPair → ℕ → ℕ → ℕ → ℕ → ℕ → ℕ → ℕ
volume_read plane points width height depth gs gt gr = along plane points (route_of width height depth gs gt gr)

-- a place on each axis that is not past the last point, of a grid that 64 points have room for
pub record WithinGrid (width height depth gs gt gr : ℕ) : Type 0 where
  pub width_low : 1 ≤ width
  pub height_low : 1 ≤ height
  pub depth_low : 1 ≤ depth
  pub column : gs ≤ 16 * (width - 1)
  pub row : gt ≤ 16 * (height - 1)
  pub layer : gr ≤ 16 * (depth - 1)
  pub room : width * height * depth ≤ 64

-- the levels of each point are bytes
abbrev pub ByteLevels : List LevelPair → Type 0
ByteLevels points = (k : ℕ) → BytePair (get_or points k no_point)
