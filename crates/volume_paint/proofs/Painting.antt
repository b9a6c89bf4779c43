-- A texel of a volume's block from what is prepared, step by step, and its place in the buffer.
-- Assumes nothing.
use mathlib.Core.Path.{◌≡◌, ap}
use mathlib.Core.Bool.{Bool}
use mathlib.Core.List.{List, []}
use Prim.Native.Nat.{ℕ, ◌+◌, ◌*◌, ◌≤◌, ◌<◌}
use native.Mathlib.Nat.{mul-le-mul, add-mul}
use native.Mathlib.Omega.{arith}
use lib.Arith.{digits_div, digits_mod}
use lib.Dec.{eqb}
use lib.ListN.{get_or}
use Rattle.laws.specs.Choice.{pick}
use Rattle.laws.specs.Table.{tab, by_rows}
use Rattle.encoding.specs.declared.LevelPair.{LevelPair}
use Rattle.encoding.specs.inner.Levels.{first_level, second_level}
use Rattle.partition.specs.declared.Seeds.{Seeds}
use Rattle.partition.specs.Select.{partition_of}
use Rattle.partition.specs.inner.Seeds.{select_by}
use Rattle.partition.proofs.Rows.{which_told, row_is}
use Rattle.weight_grid.specs.Place.{grid_place}
use Rattle.volume_infill.specs.declared.Route.{Route}
use Rattle.volume_infill.specs.inner.Way.{route_of, along, volume_read, WithinGrid}
use Rattle.interpolation.specs.declared.Kind.{Kind}
use Rattle.interpolation.specs.declared.Texel.{Texel}
use Rattle.half_line.specs.inner.Line.{texel_on}
use Rattle.block_buffer.proofs.Painting.{place_fits}
use Rattle.volume_paint.specs.declared.VolumeFrame.{VolumeFrame}
use Rattle.volume_paint.specs.inner.Volume.{volume_texel_at, volume_texel, InVolume}

-- ---- rows of layers

module _ (height depth y z : ℕ) (hy : y < height) where
  -- a row of a layer is one of the block's
  pub row_lt : z < depth → z * height + y < depth * height
  row_lt hz = let m : (z + 1) * height ≤ depth * height = mul-le-mul {n₂ = depth} {m₂ = height} (omega arith) (omega arith) in omega (arith, add-mul z 1 height)

-- a layer's last row is followed by the next layer's first
pub layer_end : (width height z y : ℕ) → y ≡ height → 4 * ((z * height + y) * width) ≡ 4 * ((z + 1) * height * width)
layer_end width height z y e = ap (λ (n : ℕ). 4 * (n * width)) (omega (arith, add-mul z 1 height))

module _ (width height depth : ℕ) (f : VolumeFrame) (i : InVolume width height depth f) where
  pub rows_most : f.depth * f.height ≤ 72
  rows_most = mul-le-mul {n₂ = 6} {m₂ = 12} i.depth_most i.height_most

  -- a place of a row lies in the buffer
  pub in_buffer : (x q : ℕ) → x < f.width → q < f.depth * f.height → 4 * (q * f.width + x) + 4 ≤ 864
  in_buffer x q hx hq = place_fits f.width (f.depth * f.height) x q i.texels hx hq

  -- a texel has a place on the grid
  pub on_grid : (x y z : ℕ) {gs gt gr : ℕ} → x < f.width → y < f.height → z < f.depth
      → gs ≡ grid_place f.across x width → gt ≡ grid_place f.down y height → gr ≡ grid_place f.inward z depth → WithinGrid width height depth gs gt gr
  on_grid x y z hx hy hz es et er = rw (es, et, er) (record {
    width_low = i.width_least;
    height_low = i.height_least;
    depth_low = i.depth_least;
    column = i.columns x hx;
    row = i.rows y hy;
    layer = i.layers z hz;
    room = i.room;
  })

-- ---- a texel

-- step by step
pub told : (kind : Kind) (width height depth component : ℕ) (points : List LevelPair) (lines : List (List ℕ)) (index partitions : ℕ) (small : Bool) (f : VolumeFrame)
    (x y z q : ℕ) {gs gt gr : ℕ} (seeds : Seeds) {k : Route} (both : LevelPair) {which : List ℕ} {t : Texel} → x < 16 → y < f.height → q ≡ z * f.height + y
    → select_by seeds x y ≡ partition_of index partitions small x y z → which ≡ tab (λ k. pick (eqb partitions 1) 0 (select_by seeds k y)) 16
    → gs ≡ grid_place f.across x width → gt ≡ grid_place f.down y height → gr ≡ grid_place f.inward z depth
    → k ≡ route_of width height depth gs gt gr → first_level both ≡ along first_level points k → second_level both ≡ along second_level points k
    → t ≡ texel_on kind (get_or lines (get_or which x 0) []) (first_level both) (second_level both) component
    → t ≡ by_rows f.height (volume_texel kind width height depth component points lines index partitions small f) x q
unfolding volume_texel volume_texel_at volume_read
told kind width height depth component points lines index partitions small f x y z q seeds both hx hy eq es ew ex ey ez ek e1 e2 el =
    rw (eq, digits_mod z hy, digits_div z hy, el, e1, e2, ek, ex, ey, ez, which_told seeds partitions y x ew hx, row_is index partitions small x y z seeds es)
