-- A rewritten image: it passes the strict reading and shows the same.
-- Assumes nothing.
use mathlib.Core.Path.{◌≡◌, refl, sym, ap, ◌∙◌, subst}
use mathlib.Core.Bool.{true}
use mathlib.Core.List.{List}
use Prim.Native.Nat.{ℕ, ◌+◌, ◌*◌, ◌/◌, ◌%◌, ◌^◌, ◌≤◌, ◌<◌}
use native.Mathlib.Nat.{mod-eq_of_lt}
use native.Mathlib.Decide.{dec_lt, ℕ_discrete}
use native.Mathlib.Omega.{arith}
use lib.ListN.{length, get_or, get_or-eq_default}
use lib.Seq.{ext_get_or}
use Rattle.laws.specs.Table.{tab, Bytes}
use Rattle.laws.proofs.Filling.{length_tab, get_or_tab, tab_ext}
use Rattle.bits.specs.Field.{field}
use Rattle.bits.specs.Block.{number_of, bytes_of}
use Rattle.bits.proofs.Blocks.{number_lt, bytes_number, number_bytes, bytes_length}
use Rattle.footprint.specs.Footprint.{width_of, height_of}
use Rattle.image_size.specs.Sides.{blocks_of}
use Rattle.interpolation.specs.declared.Kind.{Kind}
use Rattle.interpolation.specs.Expansion.{takes_hdr}
use Rattle.interpolation.specs.declared.Texel.{Texel}
use Rattle.block_fault.specs.Faults.{fault_of}
use Rattle.texel.specs.Meaning.{shown_channel}
use Rattle.texel.specs.BlockTexel.{block_texel}
use Rattle.block_core.proofs.Shows.{shows_fault}
use Rattle.block_reading.specs.Faults.{strict_fault}
use Rattle.block_reading.specs.Shown.{texel_in, number_at_in}
use Rattle.block_reading.proofs.Shows.{strict_own, strict_error}
use Rattle.block_reading.specs.declared.Reading.TheVariants.{Ordinary, Strict}
use Rattle.block_reading.specs.Canonical.{canonical_in, CanonicalForm}
use Rattle.block_reading.proofs.Forms.{canonical_form}
use Rattle.image_layout.specs.Numbers.{block_bytes, block_at, fault_at, fault_at_in, image_number_at, image_number_at_in}
use Rattle.image_layout.specs.Geometry.{block_index}
use Rattle.image_layout.proofs.Blocks.{sixteen, byte_of}
use Rattle.image_layout.proofs.Independence.{index_in}
use Rattle.canonical_image.specs.Frames.{canonical_byte, canonical_bytes, canonical_refusal}
use Rattle.canonical_image.specs.Agreed.{Agreed, AgreedFrames}
use Rattle.canonical_image.proofs.Laws.{accepted}

opened_at : (fp : ℕ) (s : List ℕ) → canonical_bytes fp s ≡ tab (canonical_byte fp s) (length s)
unfolding canonical_bytes
opened_at fp s = refl

length_rewritten : (fp : ℕ) (s : List ℕ) → length (canonical_bytes fp s) ≡ length s
length_rewritten fp s = ap length (opened_at fp s) ∙ length_tab (canonical_byte fp s) (length s)

-- the strict reading of the canonical form shows what the ordinary one shows of the block
shown : (fp B : ℕ) → fp ≤ 23 → (kind : Kind) (x y z : ℕ) → texel_in Strict fp kind (canonical_in fp B) x y z ≡ block_texel fp kind B x y z
shown fp B low kind x y z =
    let f = canonical_form fp B low in
    elim (ℕ_discrete (fault_of (takes_hdr kind) fp B) 0) [
      | yes e ↦ strict_own fp kind (canonical_in fp B) (f.passes (takes_hdr kind) ∙ e) x y z ∙ f.same_texels kind x y z
      | no n ↦ strict_error fp kind (canonical_in fp B) (λ q. n (sym (f.passes (takes_hdr kind)) ∙ q)) x y z ∙ shows_fault fp kind B x y z n
    ]

module _ (fp : ℕ) (low : fp ≤ 23) (s : List ℕ) (small : Bytes s) where
  module _ (b : ℕ) (room : 16 * b + 16 ≤ length s) where
    each : Bytes (block_bytes s b)
    each i = elim (dec_lt i 16) [
      | yes p ↦ rw (byte_of s b room i p) (small (16 * b + i))
      | no p ↦ rw (get_or-eq_default (block_bytes s b) 0 {n = i} (omega (arith, p, sixteen s b room))) (omega arith)
    ]

    fits : block_at s b < 2 ^ 128
    unfolding block_at
    fits = subst (λ (n : ℕ). number_of (block_bytes s b) < 2 ^ (8 * n)) (sixteen s b room) (number_lt (block_bytes s b) each)

    still : 16 * b + 16 ≤ length (canonical_bytes fp s)
    unfolding canonical_bytes
    still = omega (arith, room, length_tab (canonical_byte fp s) (length s))

    -- a block's bytes are those of its canonical form
    form_bytes : block_bytes (canonical_bytes fp s) b ≡ bytes_of 16 (canonical_in fp (block_at s b))
    unfolding canonical_bytes canonical_byte bytes_of
    form_bytes =
        ext_get_or 0 (block_bytes (canonical_bytes fp s) b) (bytes_of 16 (canonical_in fp (block_at s b))) (sixteen (canonical_bytes fp s) b still ∙ sym (bytes_length 16 (canonical_in fp (block_at s b))))
        (λ i l.
        let m : i < 16 = subst (λ (n : ℕ). i < n) (sixteen (canonical_bytes fp s) b still) l in
        let d : (16 * b + i) / 16 ≡ b = omega arith in
        let o : (16 * b + i) % 16 ≡ i = omega arith in
        byte_of (canonical_bytes fp s) b still i m
        ∙ get_or_tab (canonical_byte fp s) (length s) (16 * b + i) 0 (omega (arith, room, m))
        ∙ rw (d, o) (sym (get_or_tab (λ k. field (canonical_in fp (block_at s b)) (8 * k) 8) 16 i 0 m)))

    form_is : block_at (canonical_bytes fp s) b ≡ canonical_in fp (block_at s b)
    unfolding block_at
    form_is = ap number_of form_bytes ∙ number_bytes 16 (canonical_in fp (block_at s b)) ∙ mod-eq_of_lt ((canonical_form fp (block_at s b) low).fits fits)

    kept : (fault_of true fp (block_at s b) ≡ 0 → ⊥) → block_bytes (canonical_bytes fp s) b ≡ block_bytes s b
    unfolding block_at
    kept n =
        form_bytes ∙ ap (bytes_of 16) ((canonical_form fp (block_at s b) low).faulty_kept n)
        ∙ subst (λ (k : ℕ). bytes_of k (number_of (block_bytes s b)) ≡ block_bytes s b) (sixteen s b room) (bytes_number (block_bytes s b) each)

  settled : (n : ℕ) → length s ≡ 16 * n → canonical_bytes fp (canonical_bytes fp s) ≡ canonical_bytes fp s
  unfolding canonical_byte
  settled n e = again ∙ opened where
    long : length (canonical_bytes fp s) ≡ length s
    long = length_rewritten fp s

    again : canonical_bytes fp (canonical_bytes fp s) ≡ tab (canonical_byte fp (canonical_bytes fp s)) (length s)
    again = opened_at fp (canonical_bytes fp s) ∙ ap (tab (canonical_byte fp (canonical_bytes fp s))) long

    opened : tab (canonical_byte fp (canonical_bytes fp s)) (length s) ≡ canonical_bytes fp s
    opened =
        tab_ext (canonical_byte fp (canonical_bytes fp s)) (canonical_byte fp s) 0 (length s)
        (λ k h.
        let r : 16 * (k / 16) + 16 ≤ length s = omega (arith, h, e) in
        ap (λ (B : ℕ). field (canonical_in fp B) (8 * (k % 16)) 8) (form_is (k / 16) r)
        ∙ ap (λ (B : ℕ). field B (8 * (k % 16)) 8) (canonical_form fp (block_at s (k / 16)) low).settled)
        ∙ sym (opened_at fp s)

module _ (fp w h : ℕ) (low : fp ≤ 13) (s : List ℕ) (small : Bytes s) (exact : length s ≡ 16 * blocks_of fp w h) where
  known : fp ≤ 23
  known = omega (arith, low)

  room : (b : ℕ) → b < blocks_of fp w h → 16 * b + 16 ≤ length s
  room b l = omega (arith, l, exact)

  passes : (kind : Kind) (b : ℕ) → b < blocks_of fp w h → fault_at_in Strict fp kind (canonical_bytes fp s) b ≡ fault_at fp kind s b
  unfolding fault_at_in
  passes kind b l = ap (strict_fault (takes_hdr kind) fp) (form_is fp known s small b (room b l)) ∙ (canonical_form fp (block_at s b) known).passes (takes_hdr kind)

  same_shown : (kind : Kind) (x y c : ℕ) → x < w → y < h → image_number_at_in Strict fp kind w (canonical_bytes fp s) x y c ≡ image_number_at fp kind w s x y c
  unfolding image_number_at_in number_at_in
  same_shown kind x y c hx hy =
      let i : ℕ = block_index fp w x y in
      let l : i < blocks_of fp w h = index_in fp kind w h x y 0 hx hy (omega arith) (omega arith) in
      ap (λ (B : ℕ). shown_channel kind (texel_in Strict fp kind B (x % width_of fp) (y % height_of fp) 0) c) (form_is fp known s small i (room i l))
      ∙ ap (λ (t : Texel). shown_channel kind t c) (shown fp (block_at s i) known kind (x % width_of fp) (y % height_of fp) 0)

pub agreed : AgreedFrames
agreed fp w h s old small z =
    let a = accepted fp w h (length s) (length old) z in
    let known : fp ≤ 23 = omega (arith, a.known) in
    record {
      passes = passes fp w h a.known s small a.exact_bytes;
      same_shown = same_shown fp w h a.known s small a.exact_bytes;
      faulty_kept = λ b l n. kept fp known s small b (room fp w h a.known s small a.exact_bytes b l) n;
      settled = settled fp known s small (blocks_of fp w h) a.exact_bytes;
    }
