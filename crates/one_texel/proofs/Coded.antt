-- The texel of a coded block, step by step, and the block's answer by its verdict.
-- Assumes nothing.
use mathlib.Core.Path.{◌≡◌, ap₂, ◌∙◌}
use mathlib.Core.Bool.{Bool, false}
use Prim.Native.Nat.{ℕ, ◌-◌, ◌*◌, ◌≤◌, ◌<◌}
use native.Mathlib.Omega.{arith}
use lib.Dec.{eqb}
use Rattle.laws.specs.Choice.{pick}
use Rattle.encoding.specs.declared.LevelPair.{LevelPair}
use Rattle.encoding.specs.inner.Levels.{first_level, second_level}
use Rattle.footprint.specs.Footprint.{width_of, height_of, is_volume, is_small}
use Rattle.weight_grid.specs.Place.{scale_of, grid_place}
use Rattle.weight_grid.specs.inner.Points.{read_of}
use Rattle.block_mode.specs.Back2D.{Limits}
use Rattle.partition.specs.inner.Seeds.{select_by, seeds_of}
use Rattle.partition.proofs.Bounds.{partition_lt, partition_lt_4}
use Rattle.interpolation.specs.declared.Kind.{Kind}
use Rattle.interpolation.specs.declared.Texel.{Texel}
use Rattle.interpolation.specs.Expansion.{takes_hdr}
use Rattle.block_header.specs.declared.BlockHeader.{BlockHeader}
use Rattle.block_header.specs.Counts.{weight_count, endpoint_range_of}
use Rattle.block_fault.specs.Bits.{partitions_at, header_with, header_at, endpoint_at, weight_at}
use Rattle.block_fault.specs.Faults.{fault_of}
use Rattle.weight_grid.specs.Cell.{level}
use Rattle.texel.specs.Meaning.{endpoint_levels, second_component, partition_texel, texel_from}
use Rattle.texel.specs.BlockTexel.{block_texel}
use Rattle.block_core.specs.inner.Prepared.{frame_of}
use Rattle.block_core.proofs.Frames.{inside}
use Rattle.block_core.proofs.Shows.{which_is, flat_pair}
use Rattle.texel_weights.specs.inner.Points.{points_at}
use Rattle.one_texel.specs.declared.OneTexel.{OneTexel}
use Rattle.one_texel.specs.Texel.{one_texel}

module _ (fp : ℕ) (h : BlockHeader) (l : Limits h.grid) (n : weight_count h.grid ≤ 64) (x y : ℕ) (hx : x < width_of fp) (hy : y < height_of fp) where
  -- the texel's place lies on the grid
  pub column_in : {gs : ℕ} → gs ≡ grid_place (scale_of (width_of fp)) x h.grid.width → gs ≤ 16 * (h.grid.width - 1)
  unfolding frame_of
  column_in e = rw e ((inside fp h.grid l n).columns x hx)

  pub row_in : {gt : ℕ} → gt ≡ grid_place (scale_of (height_of fp)) y h.grid.height → gt ≤ 16 * (h.grid.height - 1)
  unfolding frame_of
  row_in e = rw e ((inside fp h.grid l n).rows y hy)

  pub coded_told : is_volume fp ≡ false → h.grid.depth ≡ 1 → (kind : Kind) (B : ℕ) {gs gt p component : ℕ} (w : LevelPair) {t : Texel}
      → gs ≡ grid_place (scale_of (width_of fp)) x h.grid.width → gt ≡ grid_place (scale_of (height_of fp)) y h.grid.height
      → first_level w ≡ read_of first_level (points_at B h) h.grid.width h.grid.height gs gt
      → second_level w ≡ read_of second_level (points_at B h) h.grid.width h.grid.height gs gt
      → p ≡ pick (eqb h.partitions 1) 0 (select_by (seeds_of h.index h.partitions (is_small fp)) x y)
      → component ≡ pick (eqb h.grid.planes 2) h.component 4
      → t ≡ partition_texel kind h.modes h.partitions (endpoint_levels (endpoint_range_of h) (endpoint_at B h)) p (level (first_level w)) (level (second_level w)) component
      → t ≡ texel_from fp kind h (endpoint_at B h) (weight_at B h) x y 0
  unfolding texel_from second_component
  coded_told flat one kind B {gs} {gt} {p} {component} w es et e1 e2 ep ec e =
      e
      ∙ ap₂ (λ (a b : ℕ). partition_texel kind h.modes h.partitions (endpoint_levels (endpoint_range_of h) (endpoint_at B h)) p (level a) (level b) component) e1 e2
      ∙ rw (ep ∙ which_is h (is_small fp) x y, ec, es, et) (flat_pair fp kind h _ (weight_at B h) l n flat one x y hx hy)

-- the partition is one of the block's
module _ (h : BlockHeader) (small : Bool) (x y : ℕ) {p : ℕ} (e : p ≡ pick (eqb h.partitions 1) 0 (select_by (seeds_of h.index h.partitions small) x y)) where
  pub one_of_them : 1 ≤ h.partitions → p < h.partitions
  one_of_them k = rw (e ∙ which_is h small x y) (partition_lt h.index h.partitions small x y 0 k)

  pub one_of_four : p < 4
  one_of_four = rw (e ∙ which_is h small x y) (partition_lt_4 h.index h.partitions small x y 0)

-- a block has a partition at least
pub some_partition : (fp B : ℕ) (h : BlockHeader) → h ≡ header_at fp B → 1 ≤ h.partitions
unfolding header_at header_with partitions_at
some_partition fp B h e = rw e (omega arith)

-- the answer, from its two parts
pub answered : (fp : ℕ) (kind : Kind) (B x y : ℕ) {fault : ℕ} {texel : Texel} → fault ≡ fault_of (takes_hdr kind) fp B → texel ≡ block_texel fp kind B x y 0
    → ◌≡◌ {A = OneTexel} (record { fault = fault; texel = texel }) (one_texel fp kind B x y)
unfolding one_texel
answered fp kind B x y ef et = rw (ef, et)
