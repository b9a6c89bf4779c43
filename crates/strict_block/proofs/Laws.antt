-- What the settings of a block without fault are, and what a block shows in the strict reading, by whether it is told 21.
-- Assumes nothing.
use mathlib.Core.Path.{◌≡◌, sym, ap, ◌∙◌}
use mathlib.Core.Bool.{Bool, true, false}
use mathlib.Core.List.{List}
use Prim.Native.Nat.{ℕ, ◌+◌, ◌*◌, ◌%◌, ◌^◌, ◌<◌}
use native.Mathlib.Decide.{ℕ_discrete}
use native.Mathlib.Omega.{arith}
use lib.Dec.{eqb}
use borrow.Author.Tests.{eq-eqb, ne_eqb}
use Rattle.laws.proofs.Filling.{replaced_ext}
use Rattle.bits.specs.Block.{block_number}
use Rattle.bits.specs.declared.PhysicalBlock.{PhysicalBlock}
use Rattle.footprint.specs.Footprint.{width_of, texels_of}
use Rattle.interpolation.specs.declared.Kind.{Kind}
use Rattle.interpolation.specs.declared.Texel.{Texel}
use Rattle.interpolation.specs.Expansion.{takes_hdr}
use Rattle.block_fault.specs.Faults.{fault_of}
use Rattle.block_fault.proofs.ByKind.{fault_hdr}
use Rattle.texel.specs.Meaning.{error_texel, channel}
use Rattle.texel.specs.BlockTexel.{block_texel, block_channel, block_into}
use Rattle.block_core.specs.inner.Shows.{Shows}
use Rattle.block_core.specs.declared.Decoded.{Decoded}
use Rattle.block_core.specs.declared.Decoded.TheVariants.{Uniform, Buffered}
use Rattle.block_buffer.specs.inner.Painted.{texel_number, painted}
use Rattle.block_core.proofs.Shows.{shows_fault}
use Rattle.block_reading.specs.declared.Reading.TheVariants.{Strict}
use Rattle.block_reading.specs.Faults.{canonical_of, strict_fault}
use Rattle.block_reading.specs.Shown.{texel_in, channel_in, into_in}
use Rattle.block_reading.specs.Canonical.{canonical_in}
use Rattle.block_reading.proofs.Strict.{strict_other, strict_none, strict_21}
use Rattle.block_reading.proofs.Forms.{canonical_sound, canonical_faulty}
use Rattle.block_reading.proofs.Shows.{strict_own, strict_error}

-- ---- blocks by their halves

module _ (a b : PhysicalBlock) (la : a.lo < 2 ^ 64) (lb : b.lo < 2 ^ 64) where
  pub low_differs : (a.lo ≡ b.lo → ⊥) → false ≡ eqb (block_number a) (block_number b)
  unfolding block_number
  low_differs n = sym (ne_eqb (a.hi * 2 ^ 64 + a.lo) (b.hi * 2 ^ 64 + b.lo) (λ q. n (omega arith)))

  pub high_decides : a.lo ≡ b.lo → eqb a.hi b.hi ≡ eqb (block_number a) (block_number b)
  unfolding block_number
  high_decides e = elim (ℕ_discrete a.hi b.hi) [
    | yes q ↦ eq-eqb _ _ q ∙ sym (eq-eqb (a.hi * 2 ^ 64 + a.lo) (b.hi * 2 ^ 64 + b.lo) (omega arith))
    | no n ↦ ne_eqb _ _ n ∙ sym (ne_eqb (a.hi * 2 ^ 64 + a.lo) (b.hi * 2 ^ 64 + b.lo) (λ q. n (omega arith)))
  ]

-- ---- what was read

-- a block without fault by either list has none by kind 2's
pub no_fault : (hdr : Bool) (fp B : ℕ) → fault_of hdr fp B ≡ 0 → fault_of true fp B ≡ 0
no_fault true fp B z = z
no_fault false fp B z = fault_hdr fp B z

-- ---- the strict reading by its three cases

module _ (hdr : Bool) (fp B : ℕ) where
  pub told_other : (n : ℕ) → (fault_of hdr fp B ≡ n) × (fault_of hdr fp B ≡ 0 → ⊥) → n ≡ strict_fault hdr fp B
  told_other n k = sym (strict_other hdr fp B k.1 ∙ k.0)

  module _ (e : fault_of hdr fp B ≡ 0) (C : ℕ) (c : C ≡ canonical_of fp B) where
    pub told_none : true ≡ eqb B C → 0 ≡ strict_fault hdr fp B
    told_none q = sym (strict_none hdr fp B e (same B (canonical_of fp B) (q ∙ ap (eqb B) c))) where
      same : (x y : ℕ) → true ≡ eqb x y → x ≡ y
      same x y p = elim (ℕ_discrete x y) [ yes r ↦ r | no n ↦ absurd (differ (p ∙ ne_eqb x y n)) ] where
        differ : ◌≡◌ {A = Bool} true false → ⊥
        differ r = let k : ◌≡◌ {A = ℕ} 1 0 = ap (λ (b : Bool). elim b [ true ↦ 1 | false ↦ 0 ]) r in omega (arith, k)

    pub told_21 : false ≡ eqb B C → 21 ≡ strict_fault hdr fp B
    told_21 q = sym (strict_21 hdr fp B e (λ r. differ (q ∙ ap (eqb B) c ∙ eq-eqb B (canonical_of fp B) r))) where
      differ : ◌≡◌ {A = Bool} false true → ⊥
      differ r = let k : ◌≡◌ {A = ℕ} 0 1 = ap (λ (b : Bool). elim b [ true ↦ 1 | false ↦ 0 ]) r in omega (arith, k)

module _ (fp B : ℕ) where
  -- the canonical form by its two cases
  pub form_faulty : (n : ℕ) → (fault_of true fp B ≡ n) × (fault_of true fp B ≡ 0 → ⊥) → B ≡ canonical_in fp B
  form_faulty n k = sym (canonical_faulty fp B k.1)

  pub form_sound : fault_of true fp B ≡ 0 → (C : ℕ) → C ≡ canonical_of fp B → C ≡ canonical_in fp B
  form_sound e C c = c ∙ sym (canonical_sound fp B e)

-- ---- what is shown

module _ (fp : ℕ) (kind : Kind) (B : ℕ) where
  -- 21: the error colour
  pub error_into : strict_fault (takes_hdr kind) fp B ≡ 21 → (t : Texel) → t ≡ error_texel kind → (old l : List ℕ)
      → l ≡ painted (width_of fp) (λ x y. t) (texels_of fp) old → l ≡ into_in Strict fp kind B old
  unfolding painted texel_number into_in channel_in channel
  error_into e t q old l p =
      p ∙ replaced_ext 0 _ _ (4 * texels_of fp) old (λ k h. ap (λ (u : Texel). channel u (k % 4)) (q ∙ sym (strict_error fp kind B (λ z. omega (arith, z, e)) _ _ _)))

  module _ (n : strict_fault (takes_hdr kind) fp B ≡ 21 → ⊥) where
    -- otherwise the fault and the texels are those of the ordinary reading
    pub same_fault : fault_of (takes_hdr kind) fp B ≡ strict_fault (takes_hdr kind) fp B
    same_fault = elim (ℕ_discrete (fault_of (takes_hdr kind) fp B) 0) [
      | no h ↦ sym (strict_other (takes_hdr kind) fp B h)
      | yes e ↦ elim (ℕ_discrete B (canonical_of fp B)) [
        | yes q ↦ e ∙ sym (strict_none (takes_hdr kind) fp B e q)
        | no h ↦ absurd (n (strict_21 (takes_hdr kind) fp B e h))
      ]
    ]

    same_texel : (x y z : ℕ) → block_texel fp kind B x y z ≡ texel_in Strict fp kind B x y z
    same_texel x y z = elim (ℕ_discrete (strict_fault (takes_hdr kind) fp B) 0) [
      | yes e ↦ sym (strict_own fp kind B e x y z)
      | no h ↦ sym (shows_fault fp kind B x y z (λ z. h (sym same_fault ∙ z))) ∙ sym (strict_error fp kind B h x y z)
    ]

    pub same_into : (old l : List ℕ) → l ≡ block_into fp kind B old → l ≡ into_in Strict fp kind B old
    unfolding block_into block_channel into_in channel_in
    same_into old l p = p ∙ replaced_ext 0 _ _ (4 * texels_of fp) old (λ k h. ap (λ (u : Texel). channel u (k % 4)) (same_texel _ _ _))

-- an answer holds for what is equal
pub shows_as : (d : Decoded) (fp : ℕ) (old new : List ℕ) {f g : ℕ} {m n : List ℕ → List ℕ} → f ≡ g → ((l : List ℕ) → m l ≡ n l) → Shows f m fp d old new → Shows g n fp d old new
shows_as (Uniform u) fp old new e same s = (sym e ∙ s.0, s.1, λ l. sym (same l) ∙ s.2 l)
shows_as Buffered fp old new e same s = (sym e ∙ s.0, λ h. s.1 h ∙ same _)
