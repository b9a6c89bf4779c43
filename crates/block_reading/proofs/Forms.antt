-- The canonical form of a block: it passes the strict reading, keeps every fault and shows the same.
-- Assumes nothing.
use mathlib.Core.Path.{◌≡◌, refl, sym, ap, ◌∙◌, subst}
use mathlib.Core.Bool.{Bool, true, false}
use Prim.Native.Nat.{ℕ, ◌^◌, ◌≤◌, ◌<◌}
use native.Mathlib.Decide.{ℕ_discrete}
use native.Mathlib.Omega.{arith}
use borrow.Author.Tests.{eq-eqb, ne_eqb}
use Rattle.interpolation.specs.declared.Kind.{Kind}
use Rattle.interpolation.specs.declared.Kind.TheVariants.{Unorm16, Float16}
use Rattle.interpolation.specs.Expansion.{takes_hdr}
use Rattle.block_fault.specs.Faults.{fault_of}
use Rattle.block_fault.proofs.ByKind.{fault_hdr}
use Rattle.texel.specs.BlockTexel.{block_texel}
use Rattle.symbolic_block.specs.Writing.{block_of}
use Rattle.symbolic_block.specs.Reading.{read_block}
use Rattle.symbolic_block.proofs.Demand.{demand_3}
use Rattle.block_reading.specs.Faults.{canonical_of, strict_fault}
use Rattle.block_reading.specs.Canonical.{canonical_in, CanonicalForm, CanonicalForms}
use Rattle.block_reading.proofs.Strict.{strict_other, strict_none, written_canonical}

module _ (fp B : ℕ) where
  pub canonical_sound : fault_of true fp B ≡ 0 → canonical_in fp B ≡ canonical_of fp B
  unfolding canonical_in
  canonical_sound e = rw (eq-eqb (fault_of true fp B) 0 e)

  pub canonical_faulty : (fault_of true fp B ≡ 0 → ⊥) → canonical_in fp B ≡ B
  unfolding canonical_in
  canonical_faulty h = rw (ne_eqb (fault_of true fp B) 0 h)

  -- a fault in kind 2 is one in every kind
  every_kind : (fault_of true fp B ≡ 0 → ⊥) → (hdr : Bool) → fault_of hdr fp B ≡ 0 → ⊥
  every_kind h true = h
  every_kind h false = λ z. h (fault_hdr fp B z)

  module _ (low : fp ≤ 23) (e : fault_of true fp B ≡ 0) where
    -- the form of a block without fault
    fits : canonical_of fp B < 2 ^ 128
    unfolding canonical_of
    fits = demand_3.written_fits fp (read_block fp B) (demand_3.read_sized fp B e) (demand_3.read_acceptable fp B low e)

    sheet : read_block fp (canonical_of fp B) ≡ read_block fp B
    unfolding canonical_of
    sheet = demand_3.written_reads_back fp (read_block fp B) (demand_3.read_sized fp B e) (demand_3.read_acceptable fp B low e)

    own : canonical_of fp (canonical_of fp B) ≡ canonical_of fp B
    unfolding canonical_of
    own = ap (block_of fp) sheet

    faults : (hdr : Bool) → fault_of hdr fp (canonical_of fp B) ≡ fault_of hdr fp B
    unfolding canonical_of
    faults true = demand_3.rewritten_kinds fp B low e Float16
    faults false = demand_3.rewritten_kinds fp B low e Unorm16

    strict : (hdr : Bool) → strict_fault hdr fp (canonical_of fp B) ≡ fault_of hdr fp B
    strict hdr = elim (ℕ_discrete (fault_of hdr fp B) 0) [
      | yes z ↦ strict_none hdr fp (canonical_of fp B) (faults hdr ∙ z) (sym own) ∙ sym z
      | no n ↦ strict_other hdr fp (canonical_of fp B) (λ q. n (sym (faults hdr) ∙ q)) ∙ faults hdr
    ]

    sound : (kind : Kind) (x y z : ℕ) → fault_of (takes_hdr kind) fp B ≡ 0 → block_texel fp kind (canonical_of fp B) x y z ≡ block_texel fp kind B x y z
    unfolding canonical_of
    sound kind x y z k = demand_3.rewritten_shows fp B low kind k x y z

    error : (kind : Kind) (x y z : ℕ) → (fault_of (takes_hdr kind) fp B ≡ 0 → ⊥) → block_texel fp kind (canonical_of fp B) x y z ≡ block_texel fp kind B x y z
    unfolding block_texel
    error kind x y z n = rw (faults (takes_hdr kind), ne_eqb (fault_of (takes_hdr kind) fp B) 0 n)

    shows : (kind : Kind) (x y z : ℕ) → block_texel fp kind (canonical_of fp B) x y z ≡ block_texel fp kind B x y z
    shows kind x y z = elim (ℕ_discrete (fault_of (takes_hdr kind) fp B) 0) [ yes k ↦ sound kind x y z k | no n ↦ error kind x y z n ]

    settle : (C : ℕ) → fault_of true fp C ≡ 0 → canonical_of fp C ≡ C → canonical_in fp C ≡ C
    unfolding canonical_in
    settle C z q = rw (eq-eqb (fault_of true fp C) 0 z) q

    sound_form : CanonicalForm fp B
    sound_form = record {
      fits = λ h. subst (λ (x : ℕ). x < 2 ^ 128) (sym (canonical_sound e)) fits;
      faulty_kept = λ h. absurd (h e);
      passes = λ hdr. ap (strict_fault hdr fp) (canonical_sound e) ∙ strict hdr;
      same_faults = λ hdr. ap (fault_of hdr fp) (canonical_sound e) ∙ faults hdr;
      same_texels = λ kind x y z. ap (λ (b : ℕ). block_texel fp kind b x y z) (canonical_sound e) ∙ shows kind x y z;
      same_sheet = ap (read_block fp) (canonical_sound e) ∙ sheet;
      settled = ap (canonical_in fp) (canonical_sound e) ∙ settle (canonical_of fp B) (faults true ∙ e) own ∙ sym (canonical_sound e);
    }

  faulty_form : (fault_of true fp B ≡ 0 → ⊥) → CanonicalForm fp B
  faulty_form h = record {
    fits = λ p. subst (λ (x : ℕ). x < 2 ^ 128) (sym (canonical_faulty h)) p;
    faulty_kept = canonical_faulty;
    passes = λ hdr. ap (strict_fault hdr fp) (canonical_faulty h) ∙ strict_other hdr fp B (every_kind h hdr);
    same_faults = λ hdr. ap (fault_of hdr fp) (canonical_faulty h);
    same_texels = λ kind x y z. ap (λ (b : ℕ). block_texel fp kind b x y z) (canonical_faulty h);
    same_sheet = ap (read_block fp) (canonical_faulty h);
    settled = ap (canonical_in fp) (canonical_faulty h);
  }

  form : fp ≤ 23 → CanonicalForm fp B
  form low = elim (ℕ_discrete (fault_of true fp B) 0) [
    | yes e ↦ sound_form low e
    | no h ↦ faulty_form h
  ]

pub canonical_form : CanonicalForms
canonical_form = form
