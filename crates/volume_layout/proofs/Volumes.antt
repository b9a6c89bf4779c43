-- The rows of a volume: those of a block, and those of its blocks.
-- Assumes nothing.
use mathlib.Core.Path.{◌≡◌, sym, ap, ap₂, ◌∙◌}
use Prim.Native.Nat.{ℕ, ◌+◌, ◌*◌, ◌/◌, ◌%◌, ◌≤◌, ◌<◌}
use native.Mathlib.Nat.{div-add-mod', mod-lt, div-lt_iff_lt-mul}
use native.Mathlib.Omega.{arith}
use Rattle.image_size.specs.Sides.{blocks_across}
use Rattle.image_size.proofs.Laws.{across_covers}
use Rattle.picture_regions.specs.inner.Regions.{block_in, Cropped}
use Rattle.picture_regions.proofs.Covering.{below_row, quotient, remainder}
use Rattle.picture_regions.proofs.Blocks.{Covered, Reached}
use Rattle.volume_layout.specs.declared.VolumeGrid.{VolumeGrid}
use Rattle.volume_layout.specs.Rows.{layer_row, block_index_in}
use Rattle.volume_layout.specs.inner.Rows.{volume_row, volume_picture}
use Rattle.volume_layout.specs.inner.Parts.{SoundGrid, to_row}

-- the block by rows is the block of the texel's place
pub block_at : (g : VolumeGrid) (x y z : ℕ) → y < g.height
    → block_in (volume_picture g) x (layer_row g.height y z) ≡ block_index_in g.across g.down g.columns g.rows g.layers x y z
unfolding block_in volume_row block_index_in
block_at g x y z l = rw (quotient z g.height y l, remainder z g.height y l)

-- every row of a volume lies in one of its rows of blocks
pub row_lt : (h d bh bd q : ℕ) → 0 < h → 0 < bh → 0 < bd → q < d * h → volume_row h (blocks_across h bh) bh bd q < blocks_across d bd * blocks_across h bh
unfolding volume_row
row_lt h d bh bd q ph pbh pbd l =
    let z : q / h < d = (div-lt_iff_lt-mul ph).1 l in
    let a : q / h / bd < blocks_across d bd = across_covers d bd (q / h) pbd z in
    let b : q % h / bh < blocks_across h bh = across_covers h bh (q % h) pbh (mod-lt q ph) in
    omega (arith, below_row (blocks_across h bh) (q / h / bd) (blocks_across d bd) a)

pub covered : (g : VolumeGrid) → SoundGrid g → Covered (volume_picture g)
covered g s = record {
  width_least = s.width_least;
  columns_least = s.columns_least;
  across = s.across;
  row_lt = λ q h. rw (s.deep, s.down) (row_lt g.height g.depth g.rows g.layers q s.height_least s.rows_least s.layers_least h);
}

-- ---- the rows of a block's part

-- no two of these rows are one
pub rows_apart : (h y0 z0 rows : ℕ) → 0 < rows → y0 + rows ≤ h → (i j : ℕ) → i < j → to_row h y0 z0 rows i ≡ to_row h y0 z0 rows j → ⊥
rows_apart h y0 z0 rows p fits i j l e =
    let a : i % rows < rows = mod-lt i p in
    let b : j % rows < rows = mod-lt j p in
    let u : z0 + i / rows ≡ z0 + j / rows =
    sym (quotient (z0 + i / rows) h (y0 + i % rows) (omega arith)) ∙ ap (λ (m : ℕ). m / h) e ∙ quotient (z0 + j / rows) h (y0 + j % rows) (omega arith) in
    let v : y0 + i % rows ≡ y0 + j % rows =
    sym (remainder (z0 + i / rows) h (y0 + i % rows) (omega arith)) ∙ ap (λ (m : ℕ). m % h) e ∙ remainder (z0 + j / rows) h (y0 + j % rows) (omega arith) in
    let s : i / rows * rows ≡ j / rows * rows = ap (λ (m : ℕ). m * rows) (let t : i / rows ≡ j / rows = omega arith in t) in
    omega (arith, div-add-mod' i rows, div-add-mod' j rows)

-- block by of the rows of blocks in the layer bz of blocks
module _ (g : VolumeGrid) (sound : SoundGrid g) (by bz rows layers : ℕ) (hby : by < g.down) (some : 0 < rows)
    (cr : Cropped g.height (by * g.rows) g.rows rows) (cl : Cropped g.depth (bz * g.layers) g.layers layers) where
  abbrev to : ℕ → ℕ
  to = to_row g.height (by * g.rows) (bz * g.layers) rows

  -- its rows are those that are copied
  pub row_in : (q : ℕ) → q < g.depth * g.height → volume_row g.height g.down g.rows g.layers q ≡ bz * g.down + by → Reached to (layers * rows) q
  unfolding volume_row
  row_in q hq e =
      let h = g.height in
      let bh = g.rows in
      let bd = g.layers in
      let ny = g.down in
      let y : q % h < h = mod-lt q sound.height_least in
      let z : q / h < g.depth = (div-lt_iff_lt-mul sound.height_least).1 hq in
      let ly : q % h / bh < ny = rw sound.down (across_covers h bh (q % h) sound.rows_least y) in
      let ez : q / h / bd ≡ bz = sym (quotient (q / h / bd) ny (q % h / bh) ly) ∙ ap (λ (m : ℕ). m / ny) e ∙ quotient bz ny by hby in
      let ey : q % h / bh ≡ by = sym (remainder (q / h / bd) ny (q % h / bh) ly) ∙ ap (λ (m : ℕ). m % ny) e ∙ remainder bz ny by hby in
      let ay : by * bh + q % h % bh ≡ q % h = ap (λ (m : ℕ). m * bh + q % h % bh) (sym ey) ∙ div-add-mod' (q % h) bh in
      let az : bz * bd + q / h % bd ≡ q / h = ap (λ (m : ℕ). m * bd + q / h % bd) (sym ez) ∙ div-add-mod' (q / h) bd in
      let ry : q % h % bh < rows = cr.all (q % h % bh) (mod-lt (q % h) sound.rows_least) (omega arith) in
      let rz : q / h % bd < layers = cl.all (q / h % bd) (mod-lt (q / h) sound.layers_least) (omega arith) in
      let i : ℕ = q / h % bd * rows + q % h % bh in
      let iq : i / rows ≡ q / h % bd = quotient (q / h % bd) rows (q % h % bh) ry in
      let ir : i % rows ≡ q % h % bh = remainder (q / h % bd) rows (q % h % bh) ry in
      record {
        index = i;
        below = omega (arith, below_row rows (q / h % bd) layers rz);
        is = ap₂ (λ (a b : ℕ). (bz * bd + a) * h + (by * bh + b)) iq ir ∙ ap₂ (λ (a b : ℕ). a * h + b) az ay ∙ div-add-mod' q h;
      }

  pub row_of : (i : ℕ) → i < layers * rows → volume_row g.height g.down g.rows g.layers (to i) ≡ bz * g.down + by
  unfolding volume_row
  row_of i li =
      let lr = cr.in_block in
      let sr = cr.in_side in
      let ll = cl.in_block in
      let mr : i % rows < rows = mod-lt i some in
      let ml : i / rows < layers = (div-lt_iff_lt-mul some).1 li in
      let ez = quotient (bz * g.layers + i / rows) g.height (by * g.rows + i % rows) (omega arith) in
      let ey = remainder (bz * g.layers + i / rows) g.height (by * g.rows + i % rows) (omega arith) in
      rw (ez, ey, quotient bz g.layers (i / rows) (omega arith), quotient by g.rows (i % rows) (omega arith))
