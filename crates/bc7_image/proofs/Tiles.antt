-- A block of 4x4 texels in a picture: its rows lie within 64 bytes, and what is copied of it shows the picture's bytes.
-- Assumes nothing.
use mathlib.Core.Path.{◌≡◌, refl, sym, ap, ◌∙◌, subst}
use mathlib.Core.List.{List}
use Prim.Native.Nat.{ℕ, ◌+◌, ◌*◌, ◌/◌, ◌%◌, ◌<◌}
use native.Mathlib.Nat.{div-add-mod', mod-lt}
use native.Mathlib.Omega.{arith}
use lib.ListN.{length, get_or}
use Rattle.laws.proofs.Filling.{get_or_tab, length_tab}
use Rattle.footprint.specs.Footprint.{footprints, width_of, height_of}
use Rattle.image_size.specs.Sides.{blocks_across}
use Rattle.image_layout.specs.declared.ImageGrid.{ImageGrid}
use Rattle.image_layout.specs.declared.Part.{Part}
use Rattle.image_layout.specs.declared.Run.{Run}
use Rattle.image_layout.specs.Geometry.{block_index}
use Rattle.image_layout.specs.Numbers.{block_at}
use Rattle.picture_regions.specs.Picture.{place}
use Rattle.picture_regions.proofs.Blocks.{tile_of}
use Rattle.picture_regions.specs.inner.Regions.{Tile}
use Rattle.image_layout.specs.inner.Rows.{flat_picture}
use Rattle.image_layout.proofs.Blocks.{row_in, row_of}
use Rattle.image_layout.proofs.Calls.{covered}
use Rattle.image_layout.specs.inner.Parts.{SoundGrid, PartFits, PartOf, RunOf, RunFits, PlacedRows}
use Rattle.image_layout.proofs.Parts.{products}
use Rattle.bc7_block.specs.Picture.{block_texel}
use Rattle.bc7_core.specs.Bytes.{texel_bytes, shown_bytes}
use Rattle.bc7_image.specs.Image.{bc7_number_at}

four_wide : width_of 0 ≡ 4
unfolding width_of footprints
four_wide = refl

four_high : height_of 0 ≡ 4
unfolding height_of footprints
four_high = refl

-- blocks of 4x4
pub record Four (g : ImageGrid) : Type 0 where
  pub columns : g.columns ≡ 4
  pub rows : g.rows ≡ 4

pub four : (g : ImageGrid) → SoundGrid g → g.footprint ≡ 0 → Four g
four g s z = record { columns = s.columns ∙ ap width_of z ∙ four_wide; rows = s.rows ∙ ap height_of z ∙ four_high }

-- a row lies within a block's bytes and within the picture
pub run_fits_64 : (g : ImageGrid) (p : Part) (dy : ℕ) (r : Run) (m : ℕ) → SoundGrid g → g.footprint ≡ 0 → PartFits g p → dy < p.rows → RunOf g p dy r → m ≡ 4 * (g.height * g.width) → RunFits r 64 m
run_fits_64 g p dy r m s z f h o e =
    let q = products g p dy s f h in
    let k = four g s z in
    let n = o.n in
    let a = rw k.columns at o.from in
    let b = rw k.columns at f.columns.in_block in
    let c = rw k.rows at f.rows.in_block in
    record { in_source = omega (arith, a, b, c, n, h); in_result = omega (arith, o, q) }

-- what a block shows at its place is what the picture shows there
index_back : (w nx bx by dx dy : ℕ) → nx ≡ blocks_across w 4 → dx < 4 → dy < 4 → by * nx + bx ≡ block_index 0 w (bx * 4 + dx) (by * 4 + dy)
unfolding block_index
index_back w nx bx by dx dy en hx hy =
    let qx : (bx * 4 + dx) / 4 ≡ bx = omega arith in
    let qy : (by * 4 + dy) / 4 ≡ by = omega arith in
    rw (four_wide, four_high, qx, qy, en)

same_texel : {B B' i i' c c' : ℕ} → B ≡ B' → i ≡ i' → c ≡ c' → block_texel B i c ≡ block_texel B' i' c'
same_texel a b d = λ t. block_texel (a t) (b t) (d t)

module _ (w nx bx by : ℕ) (s : List ℕ) (en : nx ≡ blocks_across w 4) where
  pub at_place : (dx dy c : ℕ) → dx < 4 → dy < 4 → c < 4
      → get_or (shown_bytes (block_at s (by * nx + bx))) (place 4 dx dy c) 0 ≡ bc7_number_at w s (bx * 4 + dx) (by * 4 + dy) c
  unfolding bc7_number_at shown_bytes texel_bytes
  at_place dx dy c hx hy hc =
      let B : ℕ = block_at s (by * nx + bx) in
      get_or_tab (λ n. block_texel B (n / 4) (n % 4)) 64 (4 * (dy * 4 + dx) + c) 0 (omega arith)
      ∙ same_texel (ap (block_at s) (index_back w nx bx by dx dy en hx hy)) (omega arith) (omega arith)

module _ (g : ImageGrid) (sound : SoundGrid g) (z : g.footprint ≡ 0) (s : List ℕ) where
  pub tile_bc7 : (b : ℕ) (p : Part) (B : ℕ) (buf old new : List ℕ) → PartOf g b p → B ≡ block_at s b → buf ≡ shown_bytes B
      → PlacedRows (λ n. n) g p p.rows buf old new → Tile (flat_picture g) b (bc7_number_at g.width s) old new
  tile_bc7 b p B buf old new o e held pl =
      let k = four g sound z in
      let bx : ℕ = b % g.across in
      let by : ℕ = b / g.across in
      let i : by * g.across + bx ≡ b = div-add-mod' b g.across in
      let h : buf ≡ shown_bytes (block_at s (by * g.across + bx)) = held ∙ ap shown_bytes (e ∙ ap (block_at s) (sym i)) in
      let en : g.across ≡ blocks_across g.width 4 = sound.across ∙ ap (blocks_across g.width) k.columns in
      let rows = rw o.y at o.fits.rows in
      subst (λ (n : ℕ). Tile (flat_picture g) n (bc7_number_at g.width s) old new) i
      (tile_of (flat_picture g) (covered g sound) (λ n. n) bx by p.columns p.rows (λ i. by * g.rows + i) (λ i. i) (bc7_number_at g.width s) buf old new (mod-lt b sound.across_least)
      (rw o.x at o.fits.columns) (row_in g sound bx by p.columns p.rows rows) (row_of g sound bx by p.columns p.rows rows) (rw (o.x, o.y) at pl)
      (λ dx dy c hx hy hc.
      let l = rows.in_block in
      rw (k.columns, k.rows, h) (at_place g.width g.across bx by s en dx dy c (omega (arith, k.columns)) (omega (arith, k.rows)) hc)))

pub bytes_64 : (B : ℕ) → length (shown_bytes B) ≡ 64
unfolding shown_bytes texel_bytes
bytes_64 B = length_tab (λ n. block_texel B (n / 4) (n % 4)) 64
