-- A block that shows one texel everywhere, row by row, as if it were copied from a buffer.
-- Assumes nothing.
use mathlib.Core.Path.{◌≡◌, sym, ◌∙◌}
use mathlib.Core.List.{List}
use Prim.Native.Nat.{ℕ, ◌+◌, ◌*◌, ◌≤◌, ◌<◌}
use native.Mathlib.Omega.{arith}
use lib.ListN.{length, get_or}
use Rattle.laws.proofs.Filling.{length_tab, replaced_here}
use Rattle.footprint.specs.Footprint.{width_of, texels_of}
use Rattle.footprint.proofs.Laws.{texels_le}
use Rattle.interpolation.specs.declared.Kind.{Kind}
use Rattle.interpolation.specs.declared.Texel.{Texel}
use Rattle.block_buffer.specs.inner.Painted.{texel_number, painted}
use Rattle.block_reading.specs.declared.Reading.{Reading}
use Rattle.block_reading.specs.Shown.{channel_in, into_in}
use Rattle.block_reading.proofs.Shows.{held}
use Rattle.picture_regions.specs.inner.Regions.{Pasted}
use Rattle.image_layout.specs.declared.ImageGrid.{ImageGrid}
use Rattle.image_layout.specs.declared.Part.{Part}
use Rattle.image_layout.specs.declared.Run.{Run}
use Rattle.image_layout.proofs.Parts.{Placing, placing_more}
use Rattle.image_layout.specs.inner.Parts.{PartFits, RunOf, RunFits}
use Rattle.texel_fill.specs.inner.Everywhere.{everywhere}
use Rattle.texel_fill.proofs.Filling.{number_at, from_any}

-- a row more
pub row_filled : (show : ℕ → ℕ) (t : Texel) (g : ImageGrid) (p : Part) (old : List ℕ) (r : Run) (m : ℕ) {l new : List ℕ} {dy : ℕ} → PartFits g p → dy < p.rows → RunOf g p dy r → RunFits r 864 m
    → length new ≡ length l → Placing show g p (everywhere t) old l dy → Pasted show (everywhere t) 0 (4 * p.columns) l r.at new → Placing show g p (everywhere t) old new (dy + 1)
row_filled show t g p old r m {l = l} {new = new} f h o s e pl q =
    placing_more show g p (everywhere t) old r f h o e pl (from_any show t r.from r.n l r.at new (omega (arith, o.from)) s.in_source (rw (← o.n) at q))

-- the numbers of such a block are the texel's
pub uniform_held : (reading : Reading) (fp : ℕ) (kind : Kind) (B : ℕ) (t : Texel) → ((l : List ℕ) → into_in reading fp kind B l ≡ painted (width_of fp) (λ x y. t) (texels_of fp) l)
    → (k : ℕ) → k < 4 * texels_of fp → get_or (everywhere t) k 0 ≡ channel_in reading fp kind B k
unfolding everywhere painted texel_number
uniform_held reading fp kind B t into k h =
    let n : length (everywhere t) ≡ 864 = length_tab _ 864 in
    let f : k < 864 = omega (arith, h, texels_le fp) in
    number_at t k f
    ∙ sym (replaced_here 0 (texel_number (width_of fp) (λ x y. t)) (4 * texels_of fp) (everywhere t) k h (omega (arith, f, n)))
    ∙ (held reading fp kind B (everywhere t) (painted (width_of fp) (λ x y. t) (texels_of fp) (everywhere t)) n (sym (into (everywhere t)))).holds k h
