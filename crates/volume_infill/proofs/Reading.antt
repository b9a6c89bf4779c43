-- Simplex infill reads points of the grid alone, and each plane of what it reads is that plane's weight by the printed table.
-- Assumes nothing.
use mathlib.Core.Path.{◌≡◌, refl, sym, ap, ◌∙◌}
use mathlib.Core.Bool.{Bool, true, false}
use mathlib.Core.List.{List}
use Prim.Native.Nat.{ℕ, ◌+◌, ◌-◌, ◌*◌, ◌/◌, ◌%◌, ◌≤◌, ◌<◌}
use native.Mathlib.Nat.{zero-mul, one-mul, mul-one, add-mul, mul_assoc, mul_comm}
use native.Mathlib.Decide.{dec_lt}
use native.Mathlib.Omega.{arith}
use lib.Dec.{eqb, ltb}
use lib.ListN.{get_or}
use borrow.Author.Tests.{eq-eqb, lt-ltb, le-ltb}
use Rattle.laws.specs.Choice.{pick}
use Rattle.laws.proofs.Filling.{padded_here}
use Rattle.encoding.specs.declared.Level.{Level}
use Rattle.encoding.specs.declared.LevelPair.{LevelPair}
use Rattle.encoding.specs.inner.Levels.{first_level, second_level, level_pair}
use Rattle.weight_grid.specs.Cell.{level_in}
use Rattle.weight_grid.specs.inner.Points.{neighbour_step, no_point, point_of, points_of}
use Rattle.weight_grid.proofs.Points.{point_lt}
use Rattle.volume_infill.specs.declared.Walk.{Walk}
use Rattle.volume_infill.specs.declared.Route.{Route}
use Rattle.volume_infill.specs.Simplex.{volume_cell_of, simplex_sum, volume_infill}
use Rattle.volume_infill.specs.inner.Way.{walk_of, route_of, volume_read, WithinGrid}
use Rattle.volume_infill.proofs.Sixteenths.{four_le}
use Rattle.volume_infill.proofs.Simplex.{simplex_same, walk_sum, walk_le, passed, walked}

-- a step of any size is so many of the step of 1
step_times : (g points size : ℕ) → neighbour_step g points size ≡ neighbour_step g points 1 * size
unfolding neighbour_step
step_times g points size = go (ltb (g / 16 + 1) points) where
  go : (t : Bool) → pick t size 0 ≡ pick t 1 0 * size
  go true = sym (one-mul size)
  go false = sym (zero-mul size)

-- the step of 1 stays within the axis
step_lt : (g points : ℕ) → 1 ≤ points → g ≤ 16 * (points - 1) → g / 16 + neighbour_step g points 1 < points
unfolding neighbour_step
step_lt g points l h =
    elim (dec_lt (g / 16 + 1) points) [
      | yes u ↦ rw (lt-ltb (g / 16 + 1) points u) u
      | no u ↦ rw (le-ltb (g / 16 + 1) points (omega arith)) (omega arith)
    ]

-- where the fraction is not 0 the step is there
step_there : (g points i : ℕ) → 1 ≤ points → g ≤ 16 * (points - 1) → i ≤ 1 → i ≤ g % 16 → i * neighbour_step g points 1 ≡ i
unfolding neighbour_step
step_there g points i l h one reach =
    elim (dec_lt (g / 16 + 1) points) [
      | yes u ↦ rw (lt-ltb (g / 16 + 1) points u) (mul-one i)
      | no u ↦ let z : i ≡ 0 = omega arith in rw (z, zero-mul (neighbour_step g points 1))
    ]

-- the number of the point in column x, row y, layer z, and of one i, j, k on
pub on : (width height x y z i j k : ℕ)
    → (z * height + y) * width + x + i + j * width + k * (width * height) ≡ ((z + k) * height + (y + j)) * width + (x + i)
on width height x y z i j k =
    omega (
      arith,
      add-mul (z * height) y width,
      add-mul ((z + k) * height) (y + j) width,
      add-mul z k height,
      add-mul (z * height) (k * height) width,
      add-mul y j width,
      mul_assoc k height width,
      mul_comm width height,
    )

pub volume_point_lt : (width height depth x y z : ℕ) → x < width → y < height → z < depth → (z * height + y) * width + x < width * height * depth
volume_point_lt width height depth x y z hx hy hz =
    let r : z * height + y < height * depth = point_lt height depth y z hy hz in
    let p : (z * height + y) * width + x < width * (height * depth) = point_lt width (height * depth) x (z * height + y) hx r in
    rw (mul_assoc width height depth) p

module _ (width height depth gs gt gr : ℕ) (p : WithinGrid width height depth gs gt gr) where
  -- the steps of 1 in the grid
  abbrev ds : ℕ
  ds = neighbour_step gs width 1

  abbrev dt : ℕ
  dt = neighbour_step gt height 1

  abbrev dr : ℕ
  dr = neighbour_step gr depth 1

  -- how far they go in the list of points
  abbrev right : ℕ
  right = neighbour_step gs width 1

  abbrev below : ℕ
  below = neighbour_step gt height width

  abbrev behind : ℕ
  behind = neighbour_step gr depth (width * height)

  -- where they begin
  abbrev n : ℕ
  n = (gr / 16 * height + gt / 16) * width + gs / 16

  abbrev way : Walk
  way = walk_of (gs % 16) (gt % 16) (gr % 16) right below behind

  -- what is read is a point of the grid
  pub volume_read_lt : n + right + below + behind < width * height * depth
  volume_read_lt =
      omega (
        arith,
        step_times gt height width,
        step_times gr depth (width * height),
        on width height (gs / 16) (gt / 16) (gr / 16) ds dt dr,
        volume_point_lt width height depth (gs / 16 + ds) (gt / 16 + dt) (gr / 16 + dr) (step_lt gs width p.width_low p.column)
            (step_lt gt height p.height_low p.row) (step_lt gr depth p.depth_low p.layer),
      )

  pub way_le : way.first + way.second ≤ right + below + behind
  way_le = walk_le (gs % 16) (gt % 16) (gr % 16) right below behind

  pub way_sum : way.w0 + way.w1 + way.w2 + way.w3 ≡ 16
  way_sum = walk_sum (gs % 16) (gt % 16) (gr % 16) right below behind (omega arith) (omega arith) (omega arith)

  -- the blend of what a plane has at the points that are read
  abbrev blended : (ℕ → ℕ) → ℕ
  blended value = simplex_sum way.w0 way.w1 way.w2 way.w3 (value n) (value (n + way.first)) (value (n + way.first + way.second)) (value (n + right + below + behind))

  module _ (levels : List Level) (planes plane : ℕ) where
    abbrev value : ℕ → ℕ
    value k = level_in levels (k * planes + plane)

    -- where the fractions reach, a neighbour is in the grid and is the point that is read
    there : (i j k : ℕ) → i ≤ 1 → j ≤ 1 → k ≤ 1 → i ≤ gs % 16 → j ≤ gt % 16 → k ≤ gr % 16
        → passed (gs % 16) (gt % 16) (gr % 16) n right below behind value i j k
        ≡ volume_cell_of levels width height depth planes plane (gs / 16 + i) (gt / 16 + j) (gr / 16 + k)
    unfolding volume_cell_of
    there i j k hi hj hk ri rj rk =
        let hx : gs / 16 + i < width = omega (arith, p.width_low, p.column) in
        let hy : gt / 16 + j < height = omega (arith, p.height_low, p.row) in
        let hz : gr / 16 + k < depth = omega (arith, p.depth_low, p.layer) in
        let a : i * right ≡ i = step_there gs width i p.width_low p.column hi ri in
        let b : j * below ≡ j * width =
        ap (λ (m : ℕ). j * m) (step_times gt height width) ∙ sym (mul_assoc j dt width) ∙ ap (λ (m : ℕ). m * width) (step_there gt height j p.height_low p.row hj rj) in
        let c : k * behind ≡ k * (width * height) =
        ap (λ (m : ℕ). k * m) (step_times gr depth (width * height)) ∙ sym (mul_assoc k dr (width * height)) ∙ ap (λ (m : ℕ). m * (width * height)) (step_there gr depth k p.depth_low p.layer hk rk) in
        let e : n + i * right + j * below + k * behind ≡ ((gr / 16 + k) * height + (gt / 16 + j)) * width + (gs / 16 + i) =
        omega (arith, a, b, c, on width height (gs / 16) (gt / 16) (gr / 16) i j k) in
        rw (lt-ltb (gs / 16 + i) width hx, lt-ltb (gt / 16 + j) height hy, lt-ltb (gr / 16 + k) depth hz) (ap value e)

    way_agrees : blended value ≡ volume_infill levels width height depth planes plane gs gt gr
    unfolding volume_infill
    way_agrees =
        walked (gs % 16) (gt % 16) (gr % 16) n right below behind value
        ∙ simplex_same (gs % 16) (gt % 16) (gr % 16) _ _ there

  module _ (levels : List Level) (planes : ℕ) (most : (k : ℕ) → level_in levels k ≤ 64) where
    abbrev second : ℕ → ℕ
    second k = pick (eqb planes 2) (level_in levels (k * planes + 1)) 0

    second_le : (k : ℕ) → second k ≤ 64
    second_le k = go (eqb planes 2) where
      go : (t : Bool) → pick t (level_in levels (k * planes + 1)) 0 ≤ 64
      go true = most _
      go false = omega arith

    abbrev points : List LevelPair
    points = points_of levels planes (width * height * depth)

    at : (k : ℕ) → k < width * height * depth → get_or points k no_point ≡ level_pair (level_in levels (k * planes)) (second k)
    unfolding points_of point_of
    at k l = padded_here (point_of levels planes) no_point 64 (width * height * depth) k no_point (omega (arith, p.room)) l

    low : (k : ℕ) → k < width * height * depth → first_level (get_or points k no_point) ≡ level_in levels (k * planes + 0)
    low k l =
        ap first_level (at k l)
        ∙ (let m = most (k * planes) in let e : (level_in levels (k * planes) + 65536 * second k) % 256 ≡ level_in levels (k * planes) = omega arith in e)
        ∙ ap (level_in levels) (let e : k * planes ≡ k * planes + 0 = omega arith in e)

    high : (k : ℕ) → k < width * height * depth → second_level (get_or points k no_point) ≡ second k
    high k l =
        ap second_level (at k l)
        ∙ (let m = most (k * planes) in let e : (level_in levels (k * planes) + 65536 * second k) / 65536 ≡ second k = omega arith in e)

    -- a plane of what is read, point by point
    corners : (plane : LevelPair → ℕ) (value : ℕ → ℕ) → ((k : ℕ) → k < width * height * depth → plane (get_or points k no_point) ≡ value k)
        → volume_read plane points width height depth gs gt gr ≡ blended value
    unfolding volume_read route_of
    corners plane value same =
        rw (
          same n (omega (arith, volume_read_lt)),
          same (n + way.first) (omega (arith, volume_read_lt, way_le)),
          same (n + way.first + way.second) (omega (arith, volume_read_lt, way_le)),
          same (n + right + below + behind) volume_read_lt,
        )

    -- each plane of what is read is that plane's weight, and no weight is above 64
    pub first_volume : volume_read first_level points width height depth gs gt gr ≡ volume_infill levels width height depth planes 0 gs gt gr
    first_volume = corners first_level (λ k. level_in levels (k * planes + 0)) low ∙ way_agrees levels planes 0

    pub second_volume : planes ≡ 2 → volume_read second_level points width height depth gs gt gr ≡ volume_infill levels width height depth planes 1 gs gt gr
    second_volume e = corners second_level second high ∙ rw (eq-eqb planes 2 e) (way_agrees levels planes 1)

    pub first_volume_le : volume_read first_level points width height depth gs gt gr ≤ 64
    first_volume_le =
        rw (corners first_level (λ k. level_in levels (k * planes + 0)) low) (four_le way.w0 way.w1 way.w2 way.w3 way_sum 64 _ _ _ _ (most _) (most _) (most _) (most _))

    pub second_volume_le : volume_read second_level points width height depth gs gt gr ≤ 64
    second_volume_le =
        rw (corners second_level second high) (four_le way.w0 way.w1 way.w2 way.w3 way_sum 64 _ _ _ _ (second_le _) (second_le _) (second_le _) (second_le _))

-- ---- step by step

-- the steps lead to points among 64
pub record Reach (n right below behind : ℕ) (k : Walk) : Type 0 where
  pub far : n + right + below + behind < 64
  pub steps : k.first + k.second ≤ right + below + behind

-- a route's points are among 64, and its factors make sixteen
pub record Routed (k : Route) : Type 0 where
  pub n0 : k.n0 < 64
  pub n1 : k.n1 < 64
  pub n2 : k.n2 < 64
  pub n3 : k.n3 < 64
  pub sum : k.w0 + k.w1 + k.w2 + k.w3 ≡ 16

module _ (width height depth gs gt gr : ℕ) (p : WithinGrid width height depth gs gt gr) where
  pub routed : {k : Route} → k ≡ route_of width height depth gs gt gr → Routed k
  unfolding route_of
  routed e =
      let far = volume_read_lt width height depth gs gt gr p in
      let steps = way_le width height depth gs gt gr p in
      let room = p.room in
      rw e (record { n0 = omega arith; n1 = omega arith; n2 = omega arith; n3 = omega arith; sum = way_sum width height depth gs gt gr p })

  module _ {n right below behind layer : ℕ} {k : Walk} (el : layer ≡ width * height)
      (en : n ≡ (gr / 16 * height + gt / 16) * width + gs / 16) (er : right ≡ neighbour_step gs width 1) (eb : below ≡ neighbour_step gt height width)
      (eh : behind ≡ neighbour_step gr depth layer) (ek : k ≡ walk_of (gs % 16) (gt % 16) (gr % 16) right below behind) where
    pub reach : Reach n right below behind k
    reach =
        rw (ek, eh, el, eb, er, en)
        (record {
          far = omega (arith, volume_read_lt width height depth gs gt gr p, p.room);
          steps = way_le width height depth gs gt gr p;
        })

    pub route_told : record { n0 = n; n1 = n + k.first; n2 = n + k.first + k.second; n3 = n + right + below + behind; w0 = k.w0; w1 = k.w1; w2 = k.w2; w3 = k.w3 }
        ≡ route_of width height depth gs gt gr
    unfolding route_of
    route_told = rw (ek, eh, el, eb, er, en)
