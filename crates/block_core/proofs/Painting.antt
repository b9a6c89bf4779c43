-- A texel of a flat block from what is prepared, step by step.
-- Assumes nothing.
use mathlib.Core.Bool.{Bool, true, false, not}
use mathlib.Core.Path.{◌≡◌, refl, sym, ap, ◌∙◌, subst}
use mathlib.Core.List.{List, []}
use Prim.Native.Nat.{ℕ, ◌+◌, ◌-◌, ◌*◌, ◌/◌, ◌%◌, ◌≤◌, ◌<◌}
use native.Mathlib.Nat.{mul-le-mul, mul_comm, mod-lt, div-lt_iff_lt-mul, div-add-mod'}
use native.Mathlib.Omega.{arith}
use lib.Dec.{T, eqb, eqb→eq}
use lib.ListN.{get_or}
use Rattle.laws.specs.Choice.{pick, both}
use Rattle.laws.proofs.Computed.{both_left, both_right}
use Rattle.laws.specs.Table.{tab}
use Rattle.block_mode.specs.declared.WeightGrid.{WeightGrid}
use Rattle.block_mode.specs.Back2D.{Limits}
use Rattle.block_header.specs.Counts.{weight_count}
use Rattle.partition.specs.declared.Seeds.{Seeds}
use Rattle.partition.specs.inner.Seeds.{select_by}
use Rattle.partition.proofs.Rows.{which_told}
use Rattle.footprint.specs.Footprint.{width_of, height_of, is_volume}
use Rattle.weight_grid.specs.Place.{grid_place}
use Rattle.encoding.specs.declared.LevelPair.{LevelPair}
use Rattle.encoding.specs.inner.Levels.{first_level, second_level}
use Rattle.weight_grid.specs.Bilinear.{w00, w01, w10, w11, blend_of}
use Rattle.weight_grid.specs.inner.Points.{neighbour_step, no_point, read_of}
use Rattle.weight_grid.specs.inner.Columns.{grid_column}
use Rattle.weight_grid.specs.declared.Column.{Column}
use Rattle.weight_grid.proofs.ByColumns.{read_column}
use Rattle.block_levels.proofs.Levels.{layer_le}
use Rattle.weight_grid.proofs.Reading.{read_lt}
use Rattle.interpolation.specs.declared.Texel.{Texel}
use Rattle.interpolation.specs.declared.Kind.{Kind}
use Rattle.half_line.specs.inner.Line.{texel_on}
use Rattle.block_core.specs.declared.FlatFrame.{FlatFrame}
use Rattle.block_core.specs.inner.Prepared.{frame_of, texel_on_grid, prepared_texel, single_texel, point_texel}
use Rattle.block_buffer.specs.inner.Painted.{painted}
use Rattle.block_buffer.proofs.Painting.{one_of}
use Rattle.block_core.proofs.Frames.{on_column, on_row}

-- what is read are points of the grid
pub reach : (g : WeightGrid) (gs gt : ℕ) → Limits g → weight_count g ≤ 64 → gs ≤ 16 * (g.width - 1) → gt ≤ 16 * (g.height - 1)
    → gt / 16 * g.width + gs / 16 + neighbour_step gt g.height g.width + neighbour_step gs g.width 1 < 64
reach g gs gt l n hs ht =
    omega (arith, layer_le g l n, read_lt g.width g.height gs gt (omega (arith, l.width_low)) (omega (arith, l.height_low)) hs ht)

module _ (g : WeightGrid) (f : FlatFrame) (x : ℕ) {gt upper lower : ℕ} (col : Column) (ec : col ≡ grid_column f.across g.width x) (eu : upper ≡ gt / 16 * g.width) (eo : lower ≡ upper + neighbour_step gt g.height g.width) where
  -- by a column: the last point that is read, and where the others stand before it
  pub reach_column : Limits g → weight_count g ≤ 64 → grid_place f.across x g.width ≤ 16 * (g.width - 1) → gt ≤ 16 * (g.height - 1)
      → (lower + col.next < 64) × (col.at ≤ col.next) × (upper ≤ lower)
  unfolding grid_column
  reach_column l n hs ht = rw (ec, eo, eu) (omega (arith, reach g (grid_place f.across x g.width) gt l n hs ht), omega arith, omega arith)

  -- the texel of a partition, step by step
  pub on_grid_told : (kind : Kind) (component : ℕ) (points : List LevelPair) (lines : List (List ℕ)) (y p : ℕ) (both : LevelPair) {t : Texel}
      → gt ≡ grid_place f.down y g.height
      → first_level both ≡ blend_of (col.part % 16) (gt % 16) (first_level (get_or points (upper + col.at) no_point)) (first_level (get_or points (upper + col.next) no_point))
      (first_level (get_or points (lower + col.at) no_point)) (first_level (get_or points (lower + col.next) no_point))
      → second_level both ≡ blend_of (col.part % 16) (gt % 16) (second_level (get_or points (upper + col.at) no_point)) (second_level (get_or points (upper + col.next) no_point))
      (second_level (get_or points (lower + col.at) no_point)) (second_level (get_or points (lower + col.next) no_point))
      → t ≡ texel_on kind (get_or lines p []) (first_level both) (second_level both) component
      → t ≡ texel_on_grid kind g component points lines p (grid_place f.across x g.width) (grid_place f.down y g.height)
  unfolding texel_on_grid
  on_grid_told kind component points lines y p both et e1 e2 el =
      let r1 = (rw ec at e1) ∙ read_column first_level points f.across g.width g.height x gt eu eo in
      let r2 = (rw ec at e2) ∙ read_column second_level points f.across g.width g.height x gt eu eo in
      rw (el, r1, r2, et)

-- of the partition that its row tells
pub told : (kind : Kind) (g : WeightGrid) (component : ℕ) (points : List LevelPair) (lines : List (List ℕ)) (seeds : Seeds) (partitions : ℕ) (f : FlatFrame) (x y : ℕ) {which : List ℕ} {t : Texel} → x < 16
    → which ≡ tab (λ k. pick (eqb partitions 1) 0 (select_by seeds k y)) 16
    → t ≡ texel_on_grid kind g component points lines (get_or which x 0) (grid_place f.across x g.width) (grid_place f.down y g.height)
    → t ≡ prepared_texel kind g component points lines seeds partitions f x y
unfolding prepared_texel
told kind g component points lines seeds partitions f x y h ew e = rw (← which_told seeds partitions y x ew h) e

-- with no component for the second weight
pub four_told : (kind : Kind) (g : WeightGrid) (component : ℕ) (points : List LevelPair) (lines : List (List ℕ)) (seeds : Seeds) (partitions : ℕ) (f : FlatFrame) (n : ℕ) (old : List ℕ) {l : List ℕ}
    → component ≡ 4 → l ≡ painted f.width (prepared_texel kind g 4 points lines seeds partitions f) n old
    → l ≡ painted f.width (prepared_texel kind g component points lines seeds partitions f) n old
four_told kind g component points lines seeds partitions f n old ec w = rw ec w

-- with one partition and one plane none is asked, and nor is the second weight
pub single_told : (kind : Kind) (g : WeightGrid) (component : ℕ) (points : List LevelPair) (lines : List (List ℕ)) (seeds : Seeds) (partitions : ℕ) (f : FlatFrame) (n : ℕ) (old : List ℕ) {l : List ℕ}
    → partitions ≡ 1 → component ≡ 4 → l ≡ painted f.width (single_texel kind g points lines f) n old
    → l ≡ painted f.width (prepared_texel kind g component points lines seeds partitions f) n old
unfolding single_texel prepared_texel
single_told kind g component points lines seeds partitions f n old ep ec w = rw (ep, ec) w

-- what the test of one partition and one plane says
pub single_true : (partitions planes component : ℕ) {r : Bool} → r ≡ both (eqb partitions 1) (not (eqb planes 2)) → r ≡ true
    → (partitions ≡ 1) × (pick (eqb planes 2) component 4 ≡ 4) × (eqb planes 2 ≡ false)
single_true partitions planes component e t = go (eqb planes 2) refl where
  p : T (both (eqb partitions 1) (not (eqb planes 2)))
  p = subst T (sym (sym e ∙ t)) tt

  one : partitions ≡ 1
  one = eqb→eq partitions 1 (both_left (eqb partitions 1) _ p)

  go : (b : Bool) → eqb planes 2 ≡ b → (partitions ≡ 1) × (pick (eqb planes 2) component 4 ≡ 4) × (eqb planes 2 ≡ false)
  go false q = (one, rw q, q)
  go true q = absurd (subst T (ap not q) (both_right (eqb partitions 1) (not (eqb planes 2)) p))

-- what the test of a grid's sides says
pub points_true : (partitions width w height h : ℕ) {r : Bool} → r ≡ both (eqb partitions 1) (both (eqb width w) (eqb height h)) → r ≡ true
    → (partitions ≡ 1) × ((width ≡ w) × (height ≡ h))
points_true partitions width w height h e t =
    let p : T (both (eqb partitions 1) (both (eqb width w) (eqb height h))) = subst T (sym (sym e ∙ t)) tt in
    let q = both_right (eqb partitions 1) (both (eqb width w) (eqb height h)) p in
    (eqb→eq partitions 1 (both_left (eqb partitions 1) _ p), (eqb→eq width w (both_left (eqb width w) (eqb height h) q), eqb→eq height h (both_right (eqb width w) (eqb height h) q)))

-- at a point of the grid its weight is the point's
read_point : (plane : LevelPair → ℕ) (points : List LevelPair) (width height x y : ℕ) → read_of plane points width height (16 * x) (16 * y) ≡ plane (get_or points (y * width + x) no_point)
unfolding read_of blend_of w00 w01 w10 w11
read_point plane points width height x y =
    let sx : 16 * x % 16 ≡ 0 = omega arith in
    let sy : 16 * y % 16 ≡ 0 = omega arith in
    let qx : 16 * x / 16 ≡ x = omega arith in
    let qy : 16 * y / 16 ≡ y = omega arith in
    rw (sx, sy, qx, qy) (omega arith)

-- with one partition, and a point of the grid for each texel, a texel is mixed at its point
pub point_told : (kind : Kind) (g : WeightGrid) (component : ℕ) (points : List LevelPair) (lines : List (List ℕ)) (seeds : Seeds) (fp partitions : ℕ)
    → is_volume fp ≡ false → partitions ≡ 1 → g.width ≡ width_of fp → g.height ≡ height_of fp → (t : ℕ) → t < height_of fp * width_of fp
    → point_texel kind component points lines t ≡ prepared_texel kind g component points lines seeds partitions (frame_of fp) (t % width_of fp) (t / width_of fp)
unfolding prepared_texel texel_on_grid point_texel frame_of
point_told kind g component points lines seeds fp partitions flat one ew eh t h =
    let w = width_of fp in
    let k : t < w * height_of fp = omega (arith, h, mul_comm w (height_of fp)) in
    let p : 0 < w = one_of w (height_of fp) k in
    rw (one, ew, eh, on_column fp flat (t % w) (mod-lt t p), on_row fp flat (t / w) ((div-lt_iff_lt-mul p).1 h), read_point first_level points w (height_of fp) (t % w) (t / w), read_point second_level points w (height_of fp) (t % w) (t / w), div-add-mod' t w)

-- a flat block's texels have room in the buffer
pub room_for : (width height : ℕ) → width ≤ 12 → height ≤ 12 → height * width ≤ 216
room_for width height w h = let m = mul-le-mul {n₂ = 12} {m₂ = 12} h w in omega arith
