-- The part of a volume that a block covers, and its rows, in terms of a volume's layout.
-- Assumes nothing.
use mathlib.Core.Path.{◌≡◌, sym, ap, ap₂, ◌∙◌, subst}
use mathlib.Core.List.{List}
use Prim.Native.Nat.{ℕ, ◌+◌, ◌*◌, ◌/◌, ◌%◌, ◌≤◌, ◌<◌}
use native.Mathlib.Nat.{div-add-mod', mod-lt, div-lt_iff_lt-mul, add-mul}
use native.Mathlib.Omega.{arith}
use lib.ListN.{length, get_or}
use Rattle.footprint.specs.Footprint.{texels_of}
use Rattle.interpolation.specs.declared.Kind.{Kind}
use Rattle.interpolation.specs.Expansion.{shown_of}
use Rattle.block_reading.specs.declared.Reading.{Reading}
use Rattle.block_reading.specs.Shown.{channel_in}
use Rattle.image_size.proofs.Laws.{across_inside}
use Rattle.picture_regions.proofs.Covering.{mul_bound, below_row, quotient, remainder}
use Rattle.picture_regions.proofs.Regions.{placed_none, placed_more}
use Rattle.picture_regions.specs.inner.Regions.{Pasted, RowsCopied, Cropped, Tile}
use Rattle.image_layout.specs.declared.Run.{Run}
use Rattle.image_layout.specs.declared.Tally.{Tally}
use Rattle.image_layout.specs.Numbers as bytes
use Rattle.image_layout.specs.Faulty.{tally_of}
use Rattle.image_layout.specs.inner.Noted.{noted}
use Rattle.image_layout.specs.inner.Parts.{RunFits}
use Rattle.image_layout.proofs.Walking.{Walking, walking_start, walking_more, walking_done}
use Rattle.volume_layout.specs.declared.VolumeGrid.{VolumeGrid}
use Rattle.volume_layout.specs.declared.VolumePart.{VolumePart}
use Rattle.volume_layout.specs.inner.Rows.{volume_picture}
use Rattle.volume_layout.specs.Numbers.{texels_in, volume_numbers_in}
use Rattle.volume_layout.proofs.Sizes.{three}
use Rattle.volume_layout.specs.inner.Parts.{SoundGrid, to_row, from_row, volume_by_rows, PartFits, PartOf, RunOf, PlacedRows}
use Rattle.volume_layout.proofs.Volumes.{covered, rows_apart}
use Rattle.volume_layout.proofs.Blocks.{tile_shown}

-- the products of a row, none of which wraps
pub record Products (g : VolumeGrid) (p : VolumePart) (dy dz : ℕ) : Type 0 where
  pub block_row : dz * g.rows + dy < 72
  pub in_block : 4 * ((dz * g.rows + dy) * g.columns) + 4 * p.columns ≤ 864
  pub volume_row_lem : (p.z + dz) * g.height + (p.y + dy) < 2048 * 16384
  pub in_volume_lem : 4 * (((p.z + dz) * g.height + (p.y + dy)) * g.width + p.x) + 4 * p.columns ≤ 4 * (g.depth * g.height * g.width)
  pub small : g.depth * g.height * g.width ≤ 2048 * 16384 * 16384

pub products : (g : VolumeGrid) (p : VolumePart) (dy dz : ℕ) → SoundGrid g → PartFits g p → dy < p.rows → dz < p.layers → Products g p dy dz
products g p dy dz s f hy hz =
    let a = f.columns.in_block in
    let b = f.columns.in_side in
    let c = f.rows.in_block in
    let d = f.rows.in_side in
    let e = f.layers.in_block in
    let i = f.layers.in_side in
    let m = below_row g.rows dz g.layers (omega arith) in
    let k = below_row g.columns (dz * g.rows + dy) (g.layers * g.rows) (omega arith) in
    let q = below_row g.height (p.z + dz) g.depth (omega arith) in
    let r = below_row g.width ((p.z + dz) * g.height + (p.y + dy)) (g.depth * g.height) (omega arith) in
    let room = s.room in
    record {
      block_row = omega (arith, mul_bound g.layers g.rows 6 12 s.layers_most s.rows_most);
      in_block = omega arith;
      volume_row_lem = omega (arith, mul_bound g.depth g.height 2048 16384 s.depth_most s.height_most);
      in_volume_lem = omega arith;
      small = three g.depth g.height g.width 2048 16384 16384 s.depth_most s.height_most s.width_most;
    }

pub run_fits : (g : VolumeGrid) (p : VolumePart) (dy dz : ℕ) (r : Run) (m : ℕ) → SoundGrid g → PartFits g p → dy < p.rows → dz < p.layers → RunOf g p dy dz r
    → m ≡ 4 * (g.depth * g.height * g.width) → RunFits r 864 m
run_fits g p dy dz r m s f hy hz o e =
    let q = products g p dy dz s f hy hz in
    record { in_source = omega (arith, o, q.in_block); in_result = omega (arith, o, q.in_volume_lem) }

-- where block b begins: within the volume
pub record Begins (g : VolumeGrid) (b : ℕ) : Type 0 where
  pub row : b / g.across < g.deep * g.down
  pub layer : b / g.across / g.down < g.deep
  pub x : b % g.across * g.columns < g.width
  pub y : b / g.across % g.down * g.rows < g.height
  pub z : b / g.across / g.down * g.layers < g.depth

pub begins : (g : VolumeGrid) (b : ℕ) → SoundGrid g → b < g.deep * g.down * g.across → Begins g b
begins g b s h =
    let r : b / g.across < g.deep * g.down = (div-lt_iff_lt-mul s.across_least).1 h in
    let l : b / g.across / g.down < g.deep = (div-lt_iff_lt-mul s.down_least).1 r in
    record {
      row = r;
      layer = l;
      x = across_inside g.width g.columns (b % g.across) s.columns_least (omega (arith, s.across, mod-lt b s.across_least));
      y = across_inside g.height g.rows (b / g.across % g.down) s.rows_least (omega (arith, s.down, mod-lt (b / g.across) s.down_least));
      z = across_inside g.depth g.layers (b / g.across / g.down) s.layers_least (omega (arith, s.deep));
    }

-- ---- what a turn of each loop does

module _ (show : ℕ → ℕ) (g : VolumeGrid) (p : VolumePart) (buf : List ℕ) where
  rows_as : (old new : List ℕ) {m n : ℕ} → m ≡ n → PlacedRows show g p m buf old new → PlacedRows show g p n buf old new
  rows_as old new e = subst (λ (k : ℕ). PlacedRows show g p k buf old new) e

  -- before the first layer, and before the first row of a layer
  pub no_layer : (old : List ℕ) → PlacedRows show g p (0 * p.rows) buf old old
  no_layer old = rows_as old old (let e : 0 ≡ 0 * p.rows = omega arith in e) (placed_none show g.width p.x p.columns g.columns _ _ buf old)

  pub no_row : (dz : ℕ) (old new : List ℕ) → PlacedRows show g p (dz * p.rows) buf old new → PlacedRows show g p (dz * p.rows + 0) buf old new
  no_row dz old new = rows_as old new (let e : dz * p.rows ≡ dz * p.rows + 0 = omega arith in e)

  -- after the last row of a layer
  pub layer_done : (dy dz : ℕ) (old new : List ℕ) → dy ≡ p.rows → PlacedRows show g p (dz * p.rows + dy) buf old new → PlacedRows show g p ((dz + 1) * p.rows) buf old new
  layer_done dy dz old new e = rows_as old new (omega (arith, add-mul dz 1 p.rows))

-- row dy of layer dz of a part
pub placed_row : (show : ℕ → ℕ) (g : VolumeGrid) (p : VolumePart) (dy dz : ℕ) (r : Run) (buf old l new : List ℕ) → PartFits g p → dy < p.rows → RunOf g p dy dz r
    → PlacedRows show g p (dz * p.rows + dy) buf old l → Pasted show buf r.from r.n l r.at new → PlacedRows show g p (dz * p.rows + (dy + 1)) buf old new
placed_row show g p dy dz r buf old l new f hy o pl q =
    let n : ℕ = dz * p.rows + dy in
    let eq : n / p.rows ≡ dz = quotient dz p.rows dy hy in
    let er : n % p.rows ≡ dy = remainder dz p.rows dy hy in
    let to : r.at ≡ 4 * (to_row g.height p.y p.z p.rows n * g.width + p.x) =
    o.at ∙ sym (ap₂ (λ (a b : ℕ). 4 * (((p.z + a) * g.height + (p.y + b)) * g.width + p.x)) eq er) in
    let from : r.from ≡ 4 * (from_row g.rows p.rows n * g.columns) = o.from ∙ sym (ap₂ (λ (a b : ℕ). 4 * ((a * g.rows + b) * g.columns)) eq er) in
    let next : dz * p.rows + dy + 1 ≡ dz * p.rows + (dy + 1) = omega arith in
    subst (λ (k : ℕ). PlacedRows show g p k buf old new) next
    (placed_more show g.width p.x p.columns g.columns (to_row g.height p.y p.z p.rows) (from_row g.rows p.rows) buf old n l new f.columns.in_side
    (λ i h e. rows_apart g.height p.y p.z p.rows (omega arith) f.rows.in_side i n h e) pl (rw (from, o.n, to) at q))

-- the first b blocks are decoded
abbrev pub Decoding : Reading → Kind → VolumeGrid → List ℕ → List ℕ → List ℕ → List ℕ → Tally → ℕ → Type 0
Decoding reading kind g s old new buf t b = Walking (volume_by_rows reading g kind s) (bytes.fault_at_in reading g.footprint kind s) 864 (volume_picture g) old new buf t b

module _ (kind : Kind) (g : VolumeGrid) (reading : Reading) (sound : SoundGrid g) (s : List ℕ) where
  abbrev fault : ℕ → ℕ
  fault = bytes.fault_at_in reading g.footprint kind s

  -- a block
  pub block_shown : (b : ℕ) (p : VolumePart) (B : ℕ) (buf old new : List ℕ) → b < g.deep * g.down * g.across → PartOf g b p → B ≡ bytes.block_at s b
      → ((k : ℕ) → k < 4 * texels_of g.footprint → get_or buf k 0 ≡ channel_in reading g.footprint kind B k)
      → PlacedRows (shown_of kind) g p (p.layers * p.rows) buf old new → Tile (volume_picture g) b (volume_by_rows reading g kind s) old new
  block_shown b p B buf old new hb o e held pl =
      let bx : ℕ = b % g.across in
      let by : ℕ = b / g.across % g.down in
      let bz : ℕ = b / g.across / g.down in
      let start = begins g b sound hb in
      let i : (bz * g.down + by) * g.across + bx ≡ b = ap (λ (n : ℕ). n * g.across + bx) (div-add-mod' (b / g.across) g.down) ∙ div-add-mod' b g.across in
      let j : B ≡ bytes.block_at s ((bz * g.down + by) * g.across + bx) = e ∙ ap (bytes.block_at s) (sym i) in
      let cr = rw o.y at o.fits.rows in
      let some : 0 < p.rows = cr.all 0 sound.rows_least (let k = start.y in omega arith) in
      subst (λ (n : ℕ). Tile (volume_picture g) n (volume_by_rows reading g kind s) old new) i
      (tile_shown reading kind g sound s bx by bz p.columns p.rows p.layers (mod-lt b sound.across_least) (mod-lt (b / g.across) sound.down_least) some
      (rw o.x at o.fits.columns) cr (rw o.z at o.fits.layers) buf old new (rw (o.x, o.y, o.z) at pl)
      (λ k h. held k h ∙ ap (λ (n : ℕ). channel_in reading g.footprint kind n k) j))

  -- before the first block
  pub decoding_start : (old buf : List ℕ) → length buf ≡ 864 → Decoding reading kind g s old old buf (record { count = 0; first = 0; fault = 0 }) 0
  decoding_start = walking_start (volume_by_rows reading g kind s) fault 864 (volume_picture g) (covered g sound)

  -- one block more
  pub decoding_more : (old l buf : List ℕ) (t : Tally) (b : ℕ) (new buf' : List ℕ) (t' : Tally) (e : ℕ) → Decoding reading kind g s old l buf t b
      → b < g.deep * g.down * g.across → length new ≡ length l → length buf' ≡ 864 → Tile (volume_picture g) b (volume_by_rows reading g kind s) l new
      → e ≡ fault b → t' ≡ noted t b e → Decoding reading kind g s old new buf' t' (b + 1)
  decoding_more = walking_more (volume_by_rows reading g kind s) fault 864 (volume_picture g) (covered g sound)

  -- after the last
  pub decoding_done : (old l buf : List ℕ) (t : Tally) (b : ℕ) → length old ≡ 4 * (g.depth * g.height * g.width) → g.deep * g.down * g.across ≤ b → Decoding reading kind g s old l buf t b
      → (t ≡ tally_of fault (g.deep * g.down * g.across)) × (l ≡ volume_numbers_in reading g.footprint kind g.width g.height g.depth s)
  unfolding volume_numbers_in texels_in
  decoding_done = walking_done (volume_by_rows reading g kind s) fault 864 (volume_picture g) (covered g sound)
