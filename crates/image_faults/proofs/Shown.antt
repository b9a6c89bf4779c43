-- What the list of faults says of the tally and of the image.
-- Assumes nothing.
use mathlib.Core.Path.{◌≡◌, refl, sym, ap, ◌∙◌, subst}
use Prim.Native.Nat.{ℕ, zero, suc, ◌+◌, ◌%◌, ◌<◌}
use mathlib.Core.List.{List}
use native.Mathlib.Numerals.{add-one}
use native.Mathlib.Decide.{ℕ_discrete}
use native.Mathlib.Omega.{arith}
use lib.ListN.{length, get_or}
use borrow.Author.Tests.{eq-eqb, ne_eqb}
use Rattle.laws.proofs.Filling.{get_or_tab}
use Rattle.footprint.specs.Footprint.{width_of, height_of}
use Rattle.interpolation.specs.declared.Kind.{Kind}
use Rattle.interpolation.specs.declared.Texel.{Texel}
use Rattle.interpolation.specs.Expansion.{takes_hdr}
use Rattle.block_fault.specs.Faults.{fault_of}
use Rattle.texel.specs.Meaning.{error_texel, shown_channel}
use Rattle.texel.specs.BlockTexel.{sound_texel, block_texel}
use Rattle.block_reading.specs.declared.Reading.{Reading}
use Rattle.block_reading.specs.declared.Reading.TheVariants.{Ordinary, Strict}
use Rattle.block_reading.specs.Faults.{fault_in, strict_fault}
use Rattle.block_reading.specs.Shown.{texel_in, number_at_in}
use Rattle.block_reading.proofs.Strict.{strict_other}
use Rattle.block_reading.proofs.Shows.{strict_own, strict_error}
use Rattle.image_size.specs.Sides.{blocks_of}
use Rattle.image_layout.specs.Geometry.{block_index}
use Rattle.image_layout.specs.Numbers.{block_at, fault_at_in, image_number_at_in}
use Rattle.image_layout.specs.Faulty.{tally_of}
use Rattle.image_layout.specs.Call.{image_refusal, image_tally_in, image_out_in}
use Rattle.picture_regions.specs.Picture.{place}
use Rattle.image_layout.proofs.Calls.{accept, decoded_out}
use Rattle.image_layout.proofs.Independence.{index_in, number_of_lem}
use Rattle.image_layout.proofs.Tallies.{tally_start, tally_more}
use Rattle.image_faults.specs.Faults.{fault_list}
use Rattle.image_faults.specs.Shown.{listed, Counted, Shown, ShownEverywhere}

-- faults that agree below n have the same tally
tally_same : (f g : ℕ → ℕ) (n : ℕ) → ((k : ℕ) → k < n → f k ≡ g k) → tally_of f n ≡ tally_of g n
tally_same f g zero h = tally_start f ∙ sym (tally_start g)
tally_same f g (suc n) h =
    let e = tally_same f g n (λ k l. h k (omega arith)) in
    subst (λ (m : ℕ). tally_of f m ≡ tally_of g m) (add-one n) (rw (← tally_more f n, ← tally_more g n, e, h n (omega arith)))

-- ---- what a block shows by its fault

module _ (kind : Kind) (fp B x y z : ℕ) where
  block_own : fault_of (takes_hdr kind) fp B ≡ 0 → block_texel fp kind B x y z ≡ sound_texel fp kind B x y z
  unfolding block_texel
  block_own e = rw (eq-eqb (fault_of (takes_hdr kind) fp B) 0 e)

  -- a block that passes the strict reading has no ordinary fault either
  strict_sound : strict_fault (takes_hdr kind) fp B ≡ 0 → fault_of (takes_hdr kind) fp B ≡ 0
  strict_sound e = elim (ℕ_discrete (fault_of (takes_hdr kind) fp B) 0) [ yes q ↦ q | no n ↦ sym (strict_other (takes_hdr kind) fp B n) ∙ e ]

  own_texel_lem : (reading : Reading) → fault_in reading (takes_hdr kind) fp B ≡ 0 → texel_in reading fp kind B x y z ≡ sound_texel fp kind B x y z
  own_texel_lem Ordinary e = block_own e
  own_texel_lem Strict e = strict_own fp kind B e x y z ∙ block_own (strict_sound e)

  error_shown : (reading : Reading) → (fault_in reading (takes_hdr kind) fp B ≡ 0 → ⊥) → texel_in reading fp kind B x y z ≡ error_texel kind
  unfolding block_texel
  error_shown Ordinary n = rw (ne_eqb (fault_of (takes_hdr kind) fp B) 0 n)
  error_shown Strict n = strict_error fp kind B n x y z

-- ---- the list

-- a block's place in it
list_at : (reading : Reading) (fp : ℕ) (kind : Kind) (w h : ℕ) (s : List ℕ) (b : ℕ) → b < blocks_of fp w h → listed (fault_list reading fp kind w h s) b ≡ fault_at_in reading fp kind s b
unfolding fault_list
list_at reading fp kind w h s b l = get_or_tab (fault_at_in reading fp kind s) (blocks_of fp w h) b 0 l

pub counted : (reading : Reading) (fp : ℕ) (kind : Kind) (w h : ℕ) (s : List ℕ) → Counted reading fp kind w h s
unfolding image_tally_in
counted reading fp kind w h s = tally_same _ _ (blocks_of fp w h) (λ k l. sym (list_at reading fp kind w h s k l))

module _ (reading : Reading) (fp : ℕ) (kind : Kind) (w h : ℕ) (s old : List ℕ) (z : image_refusal fp w h (length s) (length old) ≡ 0) (x y c : ℕ) (hx : x < w) (hy : y < h) (hc : c < 4) where
  abbrev b : ℕ
  b = block_index fp w x y

  -- the list's number is the fault of the texel's block
  fault_is : listed (fault_list reading fp kind w h s) b ≡ fault_in reading (takes_hdr kind) fp (block_at s b)
  unfolding fault_at_in
  fault_is = list_at reading fp kind w h s b (index_in fp kind w h x y c hx hy hc (accept fp w h (length s) (length old) z).footprint)

  -- what the image call leaves is what the block shows
  number_is : get_or (image_out_in reading fp kind w h s old) (place w x y c) 0 ≡ shown_channel kind (texel_in reading fp kind (block_at s b) (x % width_of fp) (y % height_of fp) 0) c
  unfolding image_number_at_in number_at_in
  number_is = ap (λ (l : List ℕ). get_or l (place w x y c) 0) (sym (decoded_out reading fp kind w h s old z)) ∙ number_of_lem reading fp kind w h x y c hx hy hc s

  pub shown_at : Shown reading fp kind w h s old x y c
  shown_at = record {
    own = λ e. number_is ∙ ap (λ (t : Texel). shown_channel kind t c) (own_texel_lem kind fp (block_at s b) (x % width_of fp) (y % height_of fp) 0 reading (sym fault_is ∙ e));
    error = λ n. number_is ∙ ap (λ (t : Texel). shown_channel kind t c) (error_shown kind fp (block_at s b) (x % width_of fp) (y % height_of fp) 0 reading (λ e. n (fault_is ∙ e)));
  }

pub shown : (reading : Reading) (fp : ℕ) (kind : Kind) (w h : ℕ) (s old : List ℕ) → ShownEverywhere reading fp kind w h s old
shown reading fp kind w h s old z x y c hx hy hc = shown_at reading fp kind w h s old z x y c hx hy hc
