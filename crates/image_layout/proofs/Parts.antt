-- The part of an image that a block covers, and its rows, in terms of an image's layout.
-- Assumes nothing.
use mathlib.Core.Path.{◌≡◌, refl, sym, ap, ◌∙◌, subst}
use mathlib.Core.List.{List}
use Prim.Native.Nat.{ℕ, ◌+◌, ◌*◌, ◌/◌, ◌%◌, ◌≤◌, ◌<◌}
use native.Mathlib.Nat.{div-add-mod', mod-lt, div-lt_iff_lt-mul}
use native.Mathlib.Omega.{arith}
use lib.ListN.{length, get_or}
use Rattle.footprint.specs.Footprint.{texels_of}
use Rattle.interpolation.specs.declared.Kind.{Kind}
use Rattle.interpolation.specs.Expansion.{shown_of}
use Rattle.block_reading.specs.declared.Reading.{Reading}
use Rattle.block_reading.specs.Shown.{channel_in}
use Rattle.image_size.proofs.Laws.{across_inside}
use Rattle.picture_regions.proofs.Covering.{mul_bound, below_row}
use Rattle.picture_regions.proofs.Regions.{placed_none, placed_more}
use Rattle.picture_regions.specs.inner.Regions.{Pasted, RowsCopied, Cropped, Tile}
use Rattle.image_layout.specs.declared.ImageGrid.{ImageGrid}
use Rattle.image_layout.specs.declared.Part.{Part}
use Rattle.image_layout.specs.declared.Run.{Run}
use Rattle.image_layout.specs.declared.Tally.{Tally}
use Rattle.image_layout.specs.Numbers.{block_at, fault_at_in, image_number_at_in, image_numbers_in}
use Rattle.image_layout.specs.Faulty.{tally_of}
use Rattle.image_layout.specs.inner.Noted.{noted}
use Rattle.image_layout.specs.inner.Rows.{flat_picture}
use Rattle.image_layout.proofs.Blocks.{tile_shown}
use Rattle.image_layout.proofs.Calls.{covered}
use Rattle.image_layout.specs.inner.Parts.{SoundGrid, PartFits, PartOf, RunOf, RunFits, PlacedRows}
use Rattle.image_layout.proofs.Walking.{Walking, walking_start, walking_more, walking_done}

-- the products of a row, none of which wraps
pub record Products (g : ImageGrid) (p : Part) (dy : ℕ) : Type 0 where
  pub in_block : 4 * (dy * g.columns) + 4 * p.columns ≤ 864
  pub in_image : 4 * ((p.y + dy) * g.width + p.x) + 4 * p.columns ≤ 4 * (g.height * g.width)
  pub small : g.height * g.width ≤ 16384 * 16384

pub products : (g : ImageGrid) (p : Part) (dy : ℕ) → SoundGrid g → PartFits g p → dy < p.rows → Products g p dy
products g p dy s f h =
    let a = f.columns.in_block in
    let b = f.columns.in_side in
    let c = f.rows.in_block in
    let d = f.rows.in_side in
    let e = below_row g.columns dy 12 (let z = s.rows_most in omega arith) in
    let i = below_row g.width (p.y + dy) g.height (omega arith) in
    let m = mul_bound g.height g.width 16384 16384 s.height_most s.width_most in
    record { in_block = let z = s.columns_most in omega arith; in_image = omega arith; small = m }

pub run_fits : (g : ImageGrid) (p : Part) (dy : ℕ) (r : Run) (m : ℕ) → SoundGrid g → PartFits g p → dy < p.rows → RunOf g p dy r → m ≡ 4 * (g.height * g.width) → RunFits r 864 m
run_fits g p dy r m s f h o e =
    let q = products g p dy s f h in
    record { in_source = omega (arith, o, q); in_result = omega (arith, o, q) }

-- where block b begins: within the image
pub record Begins (g : ImageGrid) (b : ℕ) : Type 0 where
  pub x : b % g.across * g.columns < g.width
  pub y : b / g.across * g.rows < g.height

pub begins : (g : ImageGrid) (b : ℕ) → SoundGrid g → b < g.down * g.across → Begins g b
begins g b s h = record {
  x = across_inside g.width g.columns (b % g.across) s.columns_least (omega (arith, s.across, mod-lt b s.across_least));
  y = across_inside g.height g.rows (b / g.across) s.rows_least (let l : b / g.across < g.down = (div-lt_iff_lt-mul s.across_least).1 h in omega (arith, s.down));
}

-- ---- what a turn of each loop does

-- the first b blocks of an ASTC image are decoded
abbrev pub Decoding : Reading → Kind → ImageGrid → List ℕ → List ℕ → List ℕ → List ℕ → Tally → ℕ → Type 0
Decoding reading kind g s old new buf t b =
    Walking (image_number_at_in reading g.footprint kind g.width s) (fault_at_in reading g.footprint kind s) 864 (flat_picture g) old new buf t b

-- a row of a part
pub placed_row : (show : ℕ → ℕ) (g : ImageGrid) (p : Part) (dy : ℕ) (r : Run) (buf old l new : List ℕ) → PartFits g p → RunOf g p dy r
    → PlacedRows show g p dy buf old l → Pasted show buf r.from r.n l r.at new → PlacedRows show g p (dy + 1) buf old new
placed_row show g p dy r buf old l new f o pl q =
    placed_more show g.width p.x p.columns g.columns (λ i. p.y + i) (λ i. i) buf old dy l new f.columns.in_side (λ i h e. omega arith) pl
    (rw (o.from, o.n, o.at) at q)

-- dy rows of a part are copied
module _ (show : ℕ → ℕ) (g : ImageGrid) (p : Part) (buf old : List ℕ) where
  pub record Placing (new : List ℕ) (dy : ℕ) : Type 0 where
    pub most : dy ≤ p.rows
    pub same : length new ≡ length old
    pub placed : PlacedRows show g p dy buf old new

  pub placing_none : Placing old 0
  placing_none = record { most = omega arith; same = refl; placed = placed_none show g.width p.x p.columns g.columns _ _ buf old }

  pub placing_more : (r : Run) {l new : List ℕ} {dy : ℕ} → PartFits g p → dy < p.rows → RunOf g p dy r → length new ≡ length l → Placing l dy
      → Pasted show buf r.from r.n l r.at new → Placing new (dy + 1)
  placing_more r {l = l} {new = new} {dy = dy} f h o e t q =
      record { most = omega arith; same = e ∙ t.same; placed = placed_row show g p dy r buf old l new f o t.placed q }

  pub placing_all : {new : List ℕ} {dy : ℕ} → p.rows ≤ dy → Placing new dy → PlacedRows show g p p.rows buf old new
  placing_all {new} {dy} h t = let e : dy ≡ p.rows = omega (arith, t.most) in rw e at t.placed

module _ (kind : Kind) (g : ImageGrid) (reading : Reading) (sound : SoundGrid g) (s : List ℕ) where
  abbrev number : ℕ → ℕ → ℕ → ℕ
  number = image_number_at_in reading g.footprint kind g.width s

  abbrev fault : ℕ → ℕ
  fault = fault_at_in reading g.footprint kind s

  -- a block
  pub block_shown : (b : ℕ) (p : Part) (B : ℕ) (buf old new : List ℕ) → PartOf g b p → B ≡ block_at s b
      → ((k : ℕ) → k < 4 * texels_of g.footprint → get_or buf k 0 ≡ channel_in reading g.footprint kind B k)
      → PlacedRows (shown_of kind) g p p.rows buf old new → Tile (flat_picture g) b number old new
  block_shown b p B buf old new o e held pl =
      let i : b / g.across * g.across + b % g.across ≡ b = div-add-mod' b g.across in
      let j : B ≡ block_at s (b / g.across * g.across + b % g.across) = e ∙ ap (block_at s) (sym i) in
      subst (λ (n : ℕ). Tile (flat_picture g) n number old new) i
      (tile_shown g sound (b % g.across) (b / g.across) p.columns p.rows (rw o.y at o.fits.rows) reading kind s buf old new (mod-lt b sound.across_least)
      (rw o.x at o.fits.columns) (rw (o.x, o.y) at pl) (λ k h. held k h ∙ ap (λ (n : ℕ). channel_in reading g.footprint kind n k) j))

  -- before the first block
  pub decoding_start : (old buf : List ℕ) → length buf ≡ 864 → Decoding reading kind g s old old buf (record { count = 0; first = 0; fault = 0 }) 0
  decoding_start = walking_start number fault 864 (flat_picture g) (covered g sound)

  -- one block more
  pub decoding_more : (old l buf : List ℕ) (t : Tally) (b : ℕ) (new buf' : List ℕ) (t' : Tally) (e : ℕ) → Decoding reading kind g s old l buf t b
      → b < g.down * g.across → length new ≡ length l → length buf' ≡ 864 → Tile (flat_picture g) b number l new
      → e ≡ fault b → t' ≡ noted t b e → Decoding reading kind g s old new buf' t' (b + 1)
  decoding_more = walking_more number fault 864 (flat_picture g) (covered g sound)

  -- after the last
  pub decoding_done : (old l buf : List ℕ) (t : Tally) (b : ℕ) → length old ≡ 4 * (g.height * g.width) → g.down * g.across ≤ b → Decoding reading kind g s old l buf t b
      → (t ≡ tally_of fault (g.down * g.across)) × (l ≡ image_numbers_in reading g.footprint kind g.width g.height s)
  unfolding image_numbers_in
  decoding_done = walking_done number fault 864 (flat_picture g) (covered g sound)
