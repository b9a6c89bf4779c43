-- A texel of a flat block of one partition and one plane, from pairs of points and of factors.
-- Assumes nothing.
use mathlib.Core.Path.{◌≡◌, ap, ◌∙◌}
use mathlib.Core.List.{List, []}
use Prim.Native.Nat.{ℕ, ◌+◌, ◌-◌, ◌*◌, ◌/◌, ◌%◌, ◌≤◌, ◌<◌}
use native.Mathlib.Omega.{arith}
use lib.ListN.{get_or}
use Rattle.laws.specs.Table.{tab, padded}
use Rattle.laws.proofs.Filling.{padded_here, get_or_tab}
use Rattle.block_mode.specs.declared.WeightGrid.{WeightGrid}
use Rattle.weight_grid.specs.Place.{grid_place}
use Rattle.encoding.specs.declared.LevelPair.{LevelPair}
use Rattle.encoding.specs.inner.Levels.{first_level, second_level}
use Rattle.weight_grid.specs.declared.PointPair.{PointPair}
use Rattle.weight_grid.specs.inner.Points.{neighbour_step}
use Rattle.weight_grid.specs.inner.Pairs.{OnePlane, pair_at, pairs_of, upper_pair, lower_pair, pair_blend}
use Rattle.weight_grid.proofs.PairBlend.{room_at, first_pairs, second_pairs}
use Rattle.block_levels.proofs.Levels.{layer_le}
use Rattle.interpolation.specs.declared.Texel.{Texel}
use Rattle.interpolation.specs.declared.Kind.{Kind}
use Rattle.half_line.specs.inner.Line.{texel_on}
use Rattle.block_core.specs.declared.FlatFrame.{FlatFrame}
use Rattle.block_core.specs.inner.Prepared.{texel_on_grid, single_texel, Inside}
use Rattle.block_core.proofs.Painting.{reach}

abbrev no_pair : PointPair
no_pair = record { 0 = 0 }

module _ (g : WeightGrid) (f : FlatFrame) (inside : Inside g f) (x gt : ℕ) {from next : ℕ} {places : List ℕ} (hx : x < f.width) (ht : gt ≤ 16 * (g.height - 1))
    (ep : places ≡ padded 16 f.width (λ k. grid_place f.across k g.width) 0) (ef : from ≡ gt / 16 * g.width) (en : next ≡ from + neighbour_step gt g.height g.width) where
  abbrev gs : ℕ
  gs = grid_place f.across x g.width

  narrow : x < 16
  narrow = omega (arith, hx, inside.width_most)

  pub place_is : get_or places x 0 ≡ gs
  place_is = ap (λ (l : List ℕ). get_or l x 0) ep ∙ padded_here (λ k. grid_place f.across k g.width) 0 16 f.width x 0 narrow hx

  column : gs ≤ 16 * (g.width - 1)
  column = inside.columns x hx

  -- both pairs that are read are of the grid
  pub pair_reach : (next + get_or places x 0 / 16 < 64) × (from ≤ next)
  pair_reach = rw (place_is, en, ef) (omega (arith, reach g gs gt inside.limits inside.count column ht), omega arith)

  module _ (points : List LevelPair) (one : OnePlane points) {pairs : List PointPair} {upper lower : List ℕ} (eq : pairs ≡ pairs_of points)
      (eu : upper ≡ tab (λ k. upper_pair (get_or places k 0 % 16) (gt % 16)) 16) (el : lower ≡ tab (λ k. lower_pair (get_or places k 0 % 16) (gt % 16)) 16) where
    abbrev here : ℕ
    here = gt / 16 * g.width + gs / 16

    pair_is : (k : ℕ) → k < 64 → get_or pairs k no_pair ≡ pair_at points k
    unfolding pairs_of
    pair_is k h = ap (λ (l : List PointPair). get_or l k no_pair) eq ∙ get_or_tab (pair_at points) 64 k no_pair h

    above_is : get_or pairs (from + get_or places x 0 / 16) no_pair ≡ pair_at points here
    above_is = pair_is _ (omega (arith, pair_reach)) ∙ ap (pair_at points) (rw (place_is, ef))

    below_is : get_or pairs (next + get_or places x 0 / 16) no_pair ≡ pair_at points (here + neighbour_step gt g.height g.width)
    below_is = pair_is _ pair_reach.0 ∙ ap (pair_at points) (rw (place_is, en, ef) (omega arith))

    upper_is : get_or upper x 0 ≡ upper_pair (gs % 16) (gt % 16)
    upper_is = ap (λ (l : List ℕ). get_or l x 0) eu ∙ get_or_tab (λ k. upper_pair (get_or places k 0 % 16) (gt % 16)) 16 x 0 narrow ∙ ap (λ (n : ℕ). upper_pair (n % 16) (gt % 16)) place_is

    lower_is : get_or lower x 0 ≡ lower_pair (gs % 16) (gt % 16)
    lower_is = ap (λ (l : List ℕ). get_or l x 0) el ∙ get_or_tab (λ k. lower_pair (get_or places k 0 % 16) (gt % 16)) 16 x 0 narrow ∙ ap (λ (n : ℕ). lower_pair (n % 16) (gt % 16)) place_is

    wide : 1 ≤ g.width
    wide = omega (arith, inside.limits.width_low)

    tall : 1 ≤ g.height
    tall = omega (arith, inside.limits.height_low)

    points_le : g.width * g.height ≤ 64
    points_le = layer_le g inside.limits inside.count

    pub pair_room : (get_or pairs (from + get_or places x 0 / 16) no_pair).0 * get_or upper x 0 + (get_or pairs (next + get_or places x 0 / 16) no_pair).0 * get_or lower x 0 ≤ 4278190079
    pair_room = rw (above_is, below_is, upper_is, lower_is) (room_at points one g.width g.height gs gt wide tall column ht points_le)

    -- the texel, step by step
    pub pair_told : (kind : Kind) (lines : List (List ℕ)) (y : ℕ) (weight : LevelPair) {t : Texel} → gt ≡ grid_place f.down y g.height
        → weight.0 ≡ pair_blend (get_or upper x 0) (get_or lower x 0) (get_or pairs (from + get_or places x 0 / 16) no_pair).0 (get_or pairs (next + get_or places x 0 / 16) no_pair).0
        → t ≡ texel_on kind (get_or lines 0 []) (first_level weight) (second_level weight) 4
        → t ≡ single_texel kind g points lines f x y
    unfolding single_texel texel_on_grid
    pair_told kind lines y weight et e h =
        let e' : weight.0 ≡ pair_blend (upper_pair (gs % 16) (gt % 16)) (lower_pair (gs % 16) (gt % 16)) (pair_at points here).0 (pair_at points (here + neighbour_step gt g.height g.width)).0 = rw (upper_is, lower_is, above_is, below_is) at e in
        rw (h, first_pairs points one g.width g.height gs gt wide tall column ht points_le e', second_pairs points one g.width g.height gs gt wide tall column ht points_le e', et)
