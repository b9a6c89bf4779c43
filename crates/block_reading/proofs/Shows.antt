-- What a block shows in a reading: with Ordinary the definitions of the crate texel, with Strict the block's own texels or the error colour.
-- Assumes nothing.
use mathlib.Core.Path.{◌≡◌, refl, ap, ◌∙◌}
use mathlib.Core.List.{List}
use Prim.Native.Nat.{ℕ, ◌+◌, ◌*◌, ◌/◌, ◌%◌, ◌<◌}
use native.Mathlib.Omega.{arith}
use lib.Arith.{digits_div, digits_mod}
use lib.ListN.{length, get_or}
use borrow.Author.Tests.{eq-eqb, ne_eqb}
use Rattle.laws.specs.Table.{replaced}
use Rattle.laws.proofs.Filling.{length_tab, replaced_here}
use Rattle.footprint.specs.Footprint.{width_of, height_of, texels_of}
use Rattle.footprint.proofs.Laws.{texels_le}
use Rattle.interpolation.specs.declared.Kind.{Kind}
use Rattle.interpolation.specs.Expansion.{shown_of, takes_hdr}
use Rattle.texel.specs.Meaning.{error_texel, shown_channel}
use Rattle.texel.specs.BlockTexel.{block_texel, block_number_at, block_channel, block_numbers, block_into}
use Rattle.block_reading.specs.declared.Reading.{Reading}
use Rattle.block_reading.specs.declared.Reading.TheVariants.{Ordinary, Strict}
use Rattle.block_reading.specs.Faults.{strict_fault}
use Rattle.block_reading.specs.Shown.{texel_in, number_at_in, channel_in, numbers_in, into_in}

-- ---- the ordinary reading is what stands

module _ (fp : ℕ) (kind : Kind) (B : ℕ) where
  pub ordinary_number : (x y z c : ℕ) → number_at_in Ordinary fp kind B x y z c ≡ block_number_at fp kind B x y z c
  unfolding number_at_in block_number_at
  ordinary_number x y z c = refl

  pub ordinary_channel : (k : ℕ) → channel_in Ordinary fp kind B k ≡ block_channel fp kind B k
  unfolding channel_in block_channel
  ordinary_channel k = refl

  pub ordinary_numbers : numbers_in Ordinary fp kind B ≡ block_numbers fp kind B
  unfolding numbers_in block_numbers channel_in block_channel
  ordinary_numbers = refl

  pub ordinary_into : (old : List ℕ) → into_in Ordinary fp kind B old ≡ block_into fp kind B old
  unfolding into_in block_into channel_in block_channel
  ordinary_into old = refl

  -- ---- the strict one

  pub strict_own : strict_fault (takes_hdr kind) fp B ≡ 0 → (x y z : ℕ) → texel_in Strict fp kind B x y z ≡ block_texel fp kind B x y z
  strict_own e x y z = rw (eq-eqb (strict_fault (takes_hdr kind) fp B) 0 e)

  pub strict_error : (strict_fault (takes_hdr kind) fp B ≡ 0 → ⊥) → (x y z : ℕ) → texel_in Strict fp kind B x y z ≡ error_texel kind
  strict_error h x y z = rw (ne_eqb (strict_fault (takes_hdr kind) fp B) 0 h)

-- ---- in either

module _ (reading : Reading) (fp : ℕ) (kind : Kind) (B : ℕ) where
  -- the number at a place of a block, by its place in the block's list of numbers
  pub number_at : (x y z c : ℕ) → x < width_of fp → y < height_of fp → c < 4
      → shown_of kind (channel_in reading fp kind B (4 * ((z * height_of fp + y) * width_of fp + x) + c)) ≡ number_at_in reading fp kind B x y z c
  unfolding number_at_in channel_in shown_channel
  number_at x y z c hx hy hc =
      let q = z * height_of fp + y in
      let e : (4 * (q * width_of fp + x) + c) / 4 ≡ q * width_of fp + x = omega arith in
      let m : (4 * (q * width_of fp + x) + c) % 4 ≡ c = omega arith in
      rw (e, m, digits_div q hx, digits_mod q hx, digits_div z hy, digits_mod z hy)

  -- what a buffer of 864 numbers holds once the block is decoded into it
  pub record Held (l : List ℕ) : Type 0 where
    pub size : length l ≡ 864
    pub holds : (k : ℕ) → k < 4 * texels_of fp → get_or l k 0 ≡ channel_in reading fp kind B k

  pub held : (old l : List ℕ) → length old ≡ 864 → l ≡ into_in reading fp kind B old → Held l
  unfolding into_in replaced
  held old l s e = record {
    size = ap length e ∙ length_tab _ (length old) ∙ s;
    holds = λ k h. ap (λ (m : List ℕ). get_or m k 0) e ∙ replaced_here 0 (channel_in reading fp kind B) (4 * texels_of fp) old k h (omega (arith, h, s, texels_le fp));
  }
