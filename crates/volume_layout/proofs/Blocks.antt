-- A block that was decoded into a buffer and copied to its place shows the volume's numbers there.
-- Assumes nothing.
use mathlib.Core.Path.{◌≡◌, sym, ap, ap₂, ◌∙◌}
use mathlib.Core.List.{List}
use Prim.Native.Nat.{ℕ, ◌+◌, ◌*◌, ◌/◌, ◌%◌, ◌<◌}
use native.Mathlib.Nat.{mod-lt, div-lt_iff_lt-mul, mul_comm, mul_assoc}
use native.Mathlib.Omega.{arith}
use lib.ListN.{get_or}
use Rattle.footprint.specs.Footprint.{width_of, height_of, depth_of, texels_of}
use Rattle.interpolation.specs.declared.Kind.{Kind}
use Rattle.interpolation.specs.Expansion.{shown_of}
use Rattle.block_reading.specs.declared.Reading.{Reading}
use Rattle.block_reading.specs.Shown.{number_at_in, channel_in}
use Rattle.block_reading.proofs.Shows.{number_at}
use Rattle.image_size.specs.Sides.{blocks_across}
use Rattle.picture_regions.specs.Picture.{place}
use Rattle.picture_regions.proofs.Covering.{below_row, place_within, quotient, remainder}
use Rattle.picture_regions.specs.inner.Regions.{RowsCopied, Cropped, Tile}
use Rattle.picture_regions.proofs.Blocks.{tile_of}
use Rattle.image_layout.specs.Numbers as bytes
use Rattle.volume_layout.specs.declared.VolumeGrid.{VolumeGrid}
use Rattle.volume_layout.specs.Rows.{layer_row, block_index_in}
use Rattle.volume_layout.specs.inner.Rows.{volume_picture}
use Rattle.volume_layout.specs.Numbers.{block_index, volume_number_at_in}
use Rattle.volume_layout.specs.inner.Parts.{SoundGrid, to_row, from_row, volume_by_rows}
use Rattle.volume_layout.proofs.Volumes.{covered, row_in, row_of}

-- the volume's number in block bx, by, bz, by its place in the block
pub number_in : (reading : Reading) (fp : ℕ) (kind : Kind) (w h : ℕ) (s : List ℕ) (bx by bz dx dy dz c : ℕ) → dx < width_of fp → dy < height_of fp → dz < depth_of fp
    → volume_number_at_in reading fp kind w h s (bx * width_of fp + dx) (by * height_of fp + dy) (bz * depth_of fp + dz) c
    ≡ number_at_in reading fp kind (bytes.block_at s ((bz * blocks_across h (height_of fp) + by) * blocks_across w (width_of fp) + bx)) dx dy dz c
unfolding volume_number_at_in block_index block_index_in
number_in reading fp kind w h s bx by bz dx dy dz c hx hy hz =
    rw (
      quotient bx (width_of fp) dx hx,
      quotient by (height_of fp) dy hy,
      quotient bz (depth_of fp) dz hz,
      remainder bx (width_of fp) dx hx,
      remainder by (height_of fp) dy hy,
      remainder bz (depth_of fp) dz hz,
    )

-- a texel's place in a block is within its numbers
pub row_within : (fp dx dy dz c : ℕ) → dx < width_of fp → dy < height_of fp → dz < depth_of fp → c < 4
    → place (width_of fp) dx (layer_row (height_of fp) dy dz) c < 4 * texels_of fp
unfolding texels_of
row_within fp dx dy dz c hx hy hz hc =
    rw (mul_assoc (width_of fp) (height_of fp) (depth_of fp))
    (place_within (width_of fp) (height_of fp * depth_of fp) dx (dz * height_of fp + dy) c hx
    (let m = mul_comm (height_of fp) (depth_of fp) in omega (arith, below_row (height_of fp) dz (depth_of fp) hz)) hc)

-- the numbers of block bx, by, bz, copied as far as they are within the volume
module _ (reading : Reading) (kind : Kind) (g : VolumeGrid) (sound : SoundGrid g) (s : List ℕ) (bx by bz cols rows layers : ℕ) (hbx : bx < g.across) (hby : by < g.down) (some : 0 < rows)
    (cc : Cropped g.width (bx * g.columns) g.columns cols) (cr : Cropped g.height (by * g.rows) g.rows rows) (cl : Cropped g.depth (bz * g.layers) g.layers layers) where
  abbrev index : ℕ
  index = (bz * g.down + by) * g.across + bx

  -- a texel of it, at dx, dy, dz of the block
  shown : (buf : List ℕ) → ((k : ℕ) → k < 4 * texels_of g.footprint → get_or buf k 0 ≡ channel_in reading g.footprint kind (bytes.block_at s index) k)
      → (dx dy dz c : ℕ) → dx < g.columns → dy < rows → dz < layers → c < 4
      → shown_of kind (get_or buf (place g.columns dx (dz * g.rows + dy) c) 0) ≡ volume_by_rows reading g kind s (bx * g.columns + dx) ((bz * g.layers + dz) * g.height + (by * g.rows + dy)) c
  shown buf held dx dy dz c hx hy hz hc =
      let fp = g.footprint in
      let lr = cr.in_block in
      let sr = cr.in_side in
      let ll = cl.in_block in
      let x : dx < width_of fp = omega (arith, sound.columns) in
      let y : dy < height_of fp = omega (arith, sound.rows) in
      let z : dz < depth_of fp = omega (arith, sound.layers) in
      let across : g.across ≡ blocks_across g.width (width_of fp) = sound.across ∙ ap (blocks_across g.width) sound.columns in
      let down : g.down ≡ blocks_across g.height (height_of fp) = sound.down ∙ ap (blocks_across g.height) sound.rows in
      ap₂ (λ (m n : ℕ). shown_of kind (get_or buf (place m dx (dz * n + dy) c) 0)) sound.columns sound.rows
      ∙ ap (shown_of kind) (held (place (width_of fp) dx (dz * height_of fp + dy) c) (row_within fp dx dy dz c x y z hc))
      ∙ number_at reading fp kind (bytes.block_at s index) dx dy dz c x y hc
      ∙ ap₂ (λ (m n : ℕ). number_at_in reading fp kind (bytes.block_at s ((bz * m + by) * n + bx)) dx dy dz c) down across
      ∙ sym (number_in reading fp kind g.width g.height s bx by bz dx dy dz c x y z)
      ∙ ap₂ (λ (m n : ℕ). volume_number_at_in reading fp kind g.width g.height s (bx * m + dx) (by * n + dy) (bz * depth_of fp + dz) c) (sym sound.columns) (sym sound.rows)
      ∙ ap (λ (m : ℕ). volume_number_at_in reading fp kind g.width g.height s (bx * g.columns + dx) (by * g.rows + dy) (bz * m + dz) c) (sym sound.layers)
      ∙ ap₂ (λ (m n : ℕ). volume_number_at_in reading fp kind g.width g.height s (bx * g.columns + dx) m n c)
      (sym (remainder (bz * g.layers + dz) g.height (by * g.rows + dy) (omega arith))) (sym (quotient (bz * g.layers + dz) g.height (by * g.rows + dy) (omega arith)))

  pub tile_shown : (buf old new : List ℕ)
      → RowsCopied (shown_of kind) g.width (bx * g.columns) cols g.columns (to_row g.height (by * g.rows) (bz * g.layers) rows) (from_row g.rows rows) (layers * rows) buf old new
      → ((k : ℕ) → k < 4 * texels_of g.footprint → get_or buf k 0 ≡ channel_in reading g.footprint kind (bytes.block_at s index) k)
      → Tile (volume_picture g) index (volume_by_rows reading g kind s) old new
  tile_shown buf old new p held =
      tile_of (volume_picture g) (covered g sound) (shown_of kind) bx (bz * g.down + by) cols (layers * rows) (to_row g.height (by * g.rows) (bz * g.layers) rows) (from_row g.rows rows)
      (volume_by_rows reading g kind s) buf old new hbx cc (row_in g sound by bz rows layers hby some cr cl) (row_of g sound by bz rows layers hby some cr cl) p
      (λ dx i c hx hi hc. shown buf held dx (i % rows) (i / rows) c hx (mod-lt i some) ((div-lt_iff_lt-mul some).1 hi) hc)
