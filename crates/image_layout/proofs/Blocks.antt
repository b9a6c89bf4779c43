-- A block that was decoded into a buffer and copied to its place shows the image's numbers there.
-- Assumes nothing.
use mathlib.Core.Path.{◌≡◌, sym, ap, ap₂, ◌∙◌}
use mathlib.Core.List.{List}
use Prim.Native.Nat.{ℕ, ◌+◌, ◌*◌, ◌/◌, ◌%◌, ◌≤◌, ◌<◌}
use native.Mathlib.Decide.{dec_lt}
use native.Mathlib.Nat.{div-add-mod', mod-lt, mul-one}
use native.Mathlib.Omega.{arith}
use lib.ListN.{length, get_or, take, drop, length-drop, get_or-eq_default}
use lib.Seq.{get_or-take, get_or-drop, length-take-le}
use Rattle.bits.specs.Field.{field}
use Rattle.bits.specs.Block.{number_of}
use Rattle.laws.specs.Table.{Bytes}
use Rattle.bits.proofs.Halves.{loaded}
use Rattle.footprint.specs.Footprint.{width_of, height_of, texels_of}
use Rattle.footprint.proofs.Laws.{flat_depth}
use Rattle.interpolation.specs.declared.Kind.{Kind}
use Rattle.interpolation.specs.Expansion.{shown_of}
use Rattle.block_reading.specs.declared.Reading.{Reading}
use Rattle.block_reading.specs.Shown.{number_at_in, channel_in}
use Rattle.block_reading.proofs.Shows.{number_at}
use Rattle.image_size.specs.Sides.{blocks_across}
use Rattle.picture_regions.specs.Picture.{place}
use Rattle.picture_regions.proofs.Covering.{place_within, quotient, remainder}
use Rattle.picture_regions.specs.inner.Regions.{RowsCopied, Cropped, Tile}
use Rattle.picture_regions.proofs.Blocks.{Reached, tile_of}
use Rattle.image_layout.specs.declared.ImageGrid.{ImageGrid}
use Rattle.image_layout.specs.Geometry.{block_index}
use Rattle.image_layout.specs.Numbers.{block_bytes, block_at, image_number_at_in}
use Rattle.image_layout.specs.inner.Rows.{flat_picture}
use Rattle.image_layout.proofs.Calls.{covered}
use Rattle.image_layout.specs.inner.Parts.{SoundGrid}

-- the numbers of a block one layer thick, by column and row
pub flat_texels : (fp : ℕ) → fp < 14 → texels_of fp ≡ width_of fp * height_of fp
unfolding texels_of
flat_texels fp h = rw (flat_depth fp h) (mul-one (width_of fp * height_of fp))

pub flat_number : (reading : Reading) (fp : ℕ) (kind : Kind) (B x y c : ℕ) → x < width_of fp → y < height_of fp → c < 4
    → shown_of kind (channel_in reading fp kind B (place (width_of fp) x y c)) ≡ number_at_in reading fp kind B x y 0 c
flat_number reading fp kind B x y c hx hy hc =
    ap (λ (q : ℕ). shown_of kind (channel_in reading fp kind B (4 * (q * width_of fp + x) + c))) (let e : y ≡ 0 * height_of fp + y = omega arith in e)
    ∙ number_at reading fp kind B x y 0 c hx hy hc

-- the image's number in the block (bx, by), by its place in the block
pub number_in : (reading : Reading) (fp : ℕ) (kind : Kind) (w : ℕ) (s : List ℕ) (bx by dx dy c : ℕ) → dx < width_of fp → dy < height_of fp
    → image_number_at_in reading fp kind w s (bx * width_of fp + dx) (by * height_of fp + dy) c
    ≡ number_at_in reading fp kind (block_at s (by * blocks_across w (width_of fp) + bx)) dx dy 0 c
unfolding image_number_at_in block_index
number_in reading fp kind w s bx by dx dy c hx hy =
    rw (quotient bx (width_of fp) dx hx, quotient by (height_of fp) dy hy, remainder bx (width_of fp) dx hx, remainder by (height_of fp) dy hy)

-- a block's bytes are sixteen, each where it stands in the image's bytes
module _ (s : List ℕ) (b : ℕ) (h : 16 * b + 16 ≤ length s) where
  pub sixteen : length (block_bytes s b) ≡ 16
  unfolding block_bytes
  sixteen = length-take-le 16 (drop (16 * b) s) (simp length-drop (omega arith))

  pub byte_of : (i : ℕ) → i < 16 → get_or (block_bytes s b) i 0 ≡ get_or s (16 * b + i) 0
  unfolding block_bytes
  byte_of i l = rw (get_or-take 16 (drop (16 * b) s) i 0 l, get_or-drop (16 * b) s i 0)

  -- what is loaded from them is the block's number
  pub loaded_at : (n : ℕ) → n ≡ 16 → Bytes s → field (number_of (take n (drop (16 * b) s))) 0 128 ≡ block_at s b
  unfolding block_at block_bytes
  loaded_at n e small = rw e (loaded (block_bytes s b) each sixteen) where
    each : Bytes (block_bytes s b)
    each i =
        elim (dec_lt i 16) [
          | yes p ↦ rw (byte_of i p) (small (16 * b + i))
          | no p ↦ rw (get_or-eq_default (block_bytes s b) 0 {n = i} (omega (arith, sixteen))) (omega arith)
        ]

-- ---- block bx of row by of an image's blocks

module _ (g : ImageGrid) (sound : SoundGrid g) (bx by cols rows : ℕ) (crop : Cropped g.height (by * g.rows) g.rows rows) where
  -- its rows are those that are copied
  pub row_in : (y : ℕ) → y < g.height → y / g.rows ≡ by → Reached (λ i. by * g.rows + i) rows y
  row_in y hy e =
      let r : by * g.rows + y % g.rows ≡ y = ap (λ (k : ℕ). k * g.rows + y % g.rows) (sym e) ∙ div-add-mod' y g.rows in
      record { index = y % g.rows; below = crop.all (y % g.rows) (mod-lt y sound.rows_least) (omega arith); is = r }

  pub row_of : (i : ℕ) → i < rows → (by * g.rows + i) / g.rows ≡ by
  row_of i h = let l = crop.in_block in quotient by g.rows i (omega arith)

  -- its numbers, copied as far as they are within the image
  pub tile_shown : (reading : Reading) (kind : Kind) (s buf old new : List ℕ) → bx < g.across → Cropped g.width (bx * g.columns) g.columns cols
      → RowsCopied (shown_of kind) g.width (bx * g.columns) cols g.columns (λ i. by * g.rows + i) (λ i. i) rows buf old new
      → ((k : ℕ) → k < 4 * texels_of g.footprint → get_or buf k 0 ≡ channel_in reading g.footprint kind (block_at s (by * g.across + bx)) k)
      → Tile (flat_picture g) (by * g.across + bx) (image_number_at_in reading g.footprint kind g.width s) old new
  tile_shown reading kind s buf old new hb cc p held =
      tile_of (flat_picture g) (covered g sound) (shown_of kind) bx by cols rows (λ i. by * g.rows + i) (λ i. i) (image_number_at_in reading g.footprint kind g.width s)
      buf old new hb cc row_in row_of p
      (λ dx i c hx hi hc.
      let fp = g.footprint in
      let l = crop.in_block in
      let x : dx < width_of fp = omega (arith, sound.columns) in
      let y : i < height_of fp = omega (arith, sound.rows) in
      ap (λ (n : ℕ). shown_of kind (get_or buf (place n dx i c) 0)) sound.columns
      ∙ ap (shown_of kind) (held (place (width_of fp) dx i c) (rw (flat_texels fp sound.footprint) (place_within (width_of fp) (height_of fp) dx i c x y hc)))
      ∙ flat_number reading fp kind (block_at s (by * g.across + bx)) dx i c x y hc
      ∙ ap (λ (n : ℕ). number_at_in reading fp kind (block_at s (by * n + bx)) dx i 0 c) (sound.across ∙ ap (blocks_across g.width) sound.columns)
      ∙ sym (number_in reading fp kind g.width s bx by dx i c x y)
      ∙ ap₂ (λ (m n : ℕ). image_number_at_in reading fp kind g.width s (bx * m + dx) (by * n + i) c) (sym sound.columns) (sym sound.rows))
